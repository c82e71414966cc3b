-- *Policy*: what is read as a policy has rules under one name, at least one, and nothing under the other.
use Rattle.std.proofs.Common.{◌≡◌, ◌≢◌, ℕ, List, [], ◌∷◌, codes, Option, Some, None, option_map, Ok}
use Rattle.std.proofs.Common.{refl, sym, ap, subst, ◌∙◌}
use Rattle.std.specs.List.{AllZip}
use Rattle.std.specs.Option.{option_or}
use Rattle.std.specs.Prelude.{⊤}
use Rattle.sig_base.proofs.OptionSteps.{some_is, bind_is}
use Rattle.sig_base.specs.OptionSteps.{◌>>=◌}
use Rattle.sig_base.specs.declared.checker.AcceptedRow.{AcceptedRow}
use Rattle.sig_json.specs.Data.{Data, Items, null, boolean, number, string, array, object}
use Rattle.sig_json.specs.List.{items_list}
use Rattle.sig_json.specs.Member.{member_of, optional, optional_or, optional_list, required, required_i64, required_list}
use Rattle.sig_json.specs.Member.{required_text, there_or, each, list_each}
use Rattle.sig_policy.specs.declared.request.LeafPolicy.{LeafPolicy}
use Rattle.sig_policy.specs.declared.request.RequestPolicy.{RequestPolicy}
use Rattle.sig_policy.specs.declared.request.RequestPolicy.TheVariants as policy
use Rattle.sig_request.proofs.Rules.{rule_takes, rule_again}
use Rattle.sig_request.specs.Accepted.{with_rows}
use Rattle.sig_request.specs.DigestText.{digest_kind}
use Rattle.sig_request.specs.Policy.{at_least_one, request_policy_of, rule_of, rules_under}
use Rattle.sig_request.specs.ReadFrom.{IsRequestOf}
use Rattle.sig_request.specs.Row.{entries_of, no_kind, row_of}
use Rattle.sig_request.specs.Rules.{HasPolicy, HasRules, IsPolicy, IsRule}
use Rattle.sig_request.specs.VerifyRequest.{verify_members, verify_request}
use Rattle.sig_request.specs.declared.verify_request.VerifyRequest.{VerifyRequest}

-- ---- the members of a policy

-- a required member is there
required_takes : {A : Type 0} (kind : Data → Option A) (name : List ℕ) (d : Data) (x : A) → required kind name d ≡ Some x
    → (value : Data) × (member_of name d ≡ Some (Some value)) × (kind value ≡ Some x)
unfolding required
required_takes kind name d x = by_member (member_of name d) refl
  where
    by_member : (there : Option (Option Data)) → member_of name d ≡ there → (there >>= there_or None kind) ≡ Some x
        → (value : Data) × (member_of name d ≡ Some (Some value)) × (kind value ≡ Some x)
    by_member None is e = absurd cc
    by_member (Some None) is e = absurd cc
    by_member (Some (Some value)) is e = (value, is, e)

required_again : {A : Type 0} (kind : Data → Option A) (name : List ℕ) (d value : Data)
    → member_of name d ≡ Some (Some value) → required kind name d ≡ kind value
unfolding required
required_again kind name d value is = rw is refl

absent_takes : (name : List ℕ) (d : Data) (x : Option ⊤) → optional no_kind name d ≡ Some x → member_of name d ≡ Some None
unfolding optional_or
absent_takes name d x = by_member (member_of name d) refl
  where
    by_member : (there : Option (Option Data)) → member_of name d ≡ there
        → (there >>= there_or (Some None) (λ v. option_map Some (no_kind v))) ≡ Some x → member_of name d ≡ Some None
    by_member None is e = absurd cc
    by_member (Some None) is e = is
    by_member (Some (Some value)) is e = absurd cc

absent_again : (name : List ℕ) (d : Data) → member_of name d ≡ Some None → optional no_kind name d ≡ Some None
unfolding optional_or
absent_again name d is = rw is refl

-- ---- the rules of a list

each_takes : (elements : List Data) (rules : List LeafPolicy) → each rule_of elements ≡ Some rules
    → AllZip IsRule elements rules
each_takes [] rules e = subst (λ (w : List LeafPolicy). AllZip IsRule [] w) (some_is [] rules e) tt
each_takes (d ∷ ds) rules e =
    let first = bind_is (rule_of d) _ rules e in
    let others = bind_is (each rule_of ds) _ rules first.2 in
    subst (λ (w : List LeafPolicy). AllZip IsRule (d ∷ ds) w) (some_is (first.0 ∷ others.0) rules others.2)
    (rule_takes d first.0 first.1, each_takes ds others.0 others.1)

each_again : (elements : List Data) (rules : List LeafPolicy) → AllZip IsRule elements rules
    → each rule_of elements ≡ Some rules
each_again [] [] are = refl
each_again [] (r ∷ rs) are = absurd are
each_again (d ∷ ds) [] are = absurd are
each_again (d ∷ ds) (r ∷ rs) are = rw (rule_again d r are.0, each_again ds rs are.1) refl

list_takes : (value : Data) (rules : List LeafPolicy) → list_each rule_of value ≡ Some rules
    → (elements : Items) × (value ≡ array elements) × AllZip IsRule (items_list elements) rules
unfolding list_each
list_takes null rules e = absurd cc
list_takes (boolean b) rules e = absurd cc
list_takes (number n) rules e = absurd cc
list_takes (string s) rules e = absurd cc
list_takes (array ds) rules e = (ds, refl, each_takes (items_list ds) rules e)
list_takes (object ms) rules e = absurd cc

list_again : (elements : Items) (rules : List LeafPolicy) → AllZip IsRule (items_list elements) rules
    → list_each rule_of (array elements) ≡ Some rules
unfolding list_each
list_again elements rules are = each_again (items_list elements) rules are

one_takes : (rules found : List LeafPolicy) → at_least_one rules ≡ Some found → (rules ≡ found) × (found ≢ [])
one_takes [] found e = absurd cc
one_takes (r ∷ rs) found e =
    let same = some_is (r ∷ rs) found e in (same, (λ none. let wrong = same ∙ none in cc))

one_again : (rules : List LeafPolicy) → rules ≢ [] → at_least_one rules ≡ Some rules
one_again [] some = absurd (some refl)
one_again (r ∷ rs) some = refl

-- ---- the rules under a name

rules_take : (name other : List ℕ) (d : Data) (rules : List LeafPolicy) → rules_under name other d ≡ Some rules
    → HasRules name other d rules
unfolding rules_under
rules_take name other d rules e =
    let listed = bind_is (required_list rule_of name d) _ rules e in
    let nothing = bind_is (optional no_kind other d) _ rules listed.2 in
    let value = required_takes (list_each rule_of) name d listed.0 listed.1 in
    let elements = list_takes value.0 listed.0 value.2 in
    let found = one_takes listed.0 rules nothing.2 in
    record {
      elements = elements.0;
      there = value.1 ∙ ap (λ (v : Data). Some (Some v)) elements.1;
      each = subst (λ (w : List LeafPolicy). AllZip IsRule (items_list elements.0) w) found.0 elements.2;
      some = found.1;
      nothing = absent_takes other d nothing.0 nothing.1;
    }

rules_again : (name other : List ℕ) (d : Data) (rules : List LeafPolicy) → HasRules name other d rules
    → rules_under name other d ≡ Some rules
unfolding rules_under
rules_again name other d rules has =
    let listed : required_list rule_of name d ≡ Some rules =
    required_again (list_each rule_of) name d (array has.elements) has.there
    ∙ list_again has.elements rules has.each in
    rw (listed, absent_again other d has.nothing) (one_again rules has.some)

-- ---- a policy

pub policy_takes : (d : Data) (p : RequestPolicy) → request_policy_of d ≡ Some p → IsPolicy d p
unfolding request_policy_of
policy_takes d p =
    by_both (rules_under (codes "all") (codes "any") d) (rules_under (codes "any") (codes "all") d) refl refl
  where
    by_both : (all any : Option (List LeafPolicy)) → rules_under (codes "all") (codes "any") d ≡ all
        → rules_under (codes "any") (codes "all") d ≡ any
        → option_or (option_map policy.All all) (option_map policy.Any any) ≡ Some p → IsPolicy d p
    by_both (Some rules) any is _ e =
        subst (λ (w : RequestPolicy). IsPolicy d w) (some_is (policy.All rules) p e)
        (rules_take (codes "all") (codes "any") d rules is)
    by_both None (Some rules) _ is e =
        subst (λ (w : RequestPolicy). IsPolicy d w) (some_is (policy.Any rules) p e)
        (rules_take (codes "any") (codes "all") d rules is)
    by_both None None _ _ e = absurd cc

pub policy_again : (d : Data) (p : RequestPolicy) → IsPolicy d p → request_policy_of d ≡ Some p
unfolding request_policy_of
policy_again d (policy.All rules) has = rw (rules_again (codes "all") (codes "any") d rules has) refl
policy_again d (policy.Any rules) has = by_first (rules_under (codes "all") (codes "any") d) refl
  where
    by_first : (all : Option (List LeafPolicy)) → rules_under (codes "all") (codes "any") d ≡ all
        → option_or (option_map policy.All all) (option_map policy.Any (rules_under (codes "any") (codes "all") d))
        ≡ Some (policy.Any rules)
    by_first None _ = rw (rules_again (codes "any") (codes "all") d rules has) refl
    by_first (Some others) is =
        let under = rules_take (codes "all") (codes "any") d others is in
        let both = sym has.there ∙ under.nothing in
        absurd cc

-- ---- a request

policy_in : (accepted : List AcceptedRow) (d : Data) (request : VerifyRequest)
    → verify_members accepted d ≡ Some request
    → (value : Data) × (member_of (codes "policy") d ≡ Some (Some value)) × IsPolicy value request.policy
unfolding verify_members
policy_in accepted d request e =
    let root = bind_is (required_text (codes "trustedRoot") d) _ request e in
    let bundle = bind_is (required_text (codes "bundle") d) _ request root.2 in
    let now = bind_is (required_i64 (codes "now") d) _ request bundle.2 in
    let digest = bind_is (required digest_kind (codes "digest") d) _ request now.2 in
    let rules = bind_is (required request_policy_of (codes "policy") d) _ request digest.2 in
    let entries = bind_is (optional entries_of (codes "entries") d) _ request rules.2 in
    let value = required_takes request_policy_of (codes "policy") d rules.0 rules.1 in
    let same : rules.0 ≡ request.policy =
    ap (λ (w : VerifyRequest). w.policy) (some_is _ request entries.2) in
    (value.0, value.1, subst (λ (p : RequestPolicy). IsPolicy value.0 p) same (policy_takes value.0 rules.0 value.2))

pub has_policy : (text : List ℕ) (request : VerifyRequest) → IsRequestOf verify_request text request
    → HasPolicy text request.policy
unfolding with_rows
has_policy text request is =
    let rows = bind_is (optional_list row_of (codes "accepted") is.tree) _ request is.members in
    let there = policy_in rows.0 is.tree request rows.2 in
    record { tree = is.tree; value = there.0; document = is.document; there = there.1; is = there.2 }
