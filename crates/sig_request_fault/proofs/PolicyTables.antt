-- The tables of rules and of policies are those of the policies that they mean.
use Rattle.std.proofs.Common.{◌≡◌, ℕ, List, [], ◌∷◌, length, map, codes, Bool, true, false, ◌&&◌, ◌||◌, cond, nat_lt}
use Rattle.std.proofs.Common.{if◌then◌else◌, Option, Some, None, is_some, option_map, refl, sym, ap, ◌∙◌, arith, lt-ltb}
use Rattle.std.proofs.Math.Bool.{and_assoc}
use Rattle.std.specs.List.{filter}
use Rattle.std.specs.Option.{option_or}
use Rattle.sig_base.proofs.OptionSteps.{bind_is}
use Rattle.sig_base.specs.OptionSteps.{◌>>=◌}
use Rattle.sig_json.specs.Data.{Data, Members, object}
use Rattle.sig_json.specs.Find.{as_object}
use Rattle.sig_json.specs.Kinds.{text_of}
use Rattle.sig_json.specs.Member.{list_each, member_of, optional, optional_or, required, there_or}
use Rattle.sig_policy.specs.declared.request.LeafPolicy.{LeafPolicy}
use Rattle.sig_policy.specs.declared.request.RequestPolicy.{RequestPolicy}
use Rattle.sig_policy.specs.declared.request.RequestPolicy.TheVariants as policy
use Rattle.sig_request.specs.Policy.{at_least_one, exactly_one, issuer_policy, name_is, one_at_most, one_of_five}
use Rattle.sig_request.specs.Policy.{ref_is, repository_is, request_policy_of, rule_of, rules_under, sha_is, trigger_is}
use Rattle.sig_request.specs.Policy.{workflow_policy}
use Rattle.sig_request.specs.Row.{no_kind}
use Rattle.sig_request_fault.proofs.RowTables.{and_false, text_is}
use Rattle.sig_request_fault.specs.PolicyTable.{all_table, any_table, asks_workflow, issuer_table, policy_table}
use Rattle.sig_request_fault.specs.PolicyTable.{rule_table, rules_table, workflow_names, workflow_table}
use Rattle.sig_table.proofs.SizedLists.{as_many, sized_table}
use Rattle.sig_table.proofs.RecordTables.{last_row, not_optional, not_required, optional_holds, optional_there, record_is}
use Rattle.sig_table.proofs.RecordTables.{some_of-map, step}
use Rattle.sig_table.specs.Chosen.{nothing_table}
use Rattle.sig_table.specs.Kinds.{text_table}
use Rattle.sig_table.specs.Table.{at_most_one, fits, is_empty, member_in, oneof_row, optional_row, passes, required_row}
use Rattle.sig_table.specs.Table.{row_holds}
use Rattle.sig_table.specs.TableOf.{IsTableOf}

-- ---- of the members about the workflow one at most is there

-- whether at most one is there, where one is found before, or none
abbrev one_more : Bool → List Bool → Bool
one_more found [] = true
one_more found (b ∷ bs) = if b then (if found then false else one_more true bs) else one_more found bs

module _ (test : List ℕ → Bool) where
  none_more : (names : List (List ℕ)) → is_empty (filter test names) ≡ one_more true (map test names)
  none_more [] = refl
  none_more (name ∷ names) =
      elim (test name) as (λ b. is_empty (cond b (name ∷ filter test names) (filter test names))
      ≡ one_more true (b ∷ map test names)) [
        | true ↦ refl
        | false ↦ none_more names
      ]

  one_there : (names : List (List ℕ)) → at_most_one (filter test names) ≡ one_more false (map test names)
  one_there [] = refl
  one_there (name ∷ names) =
      elim (test name) as (λ b. at_most_one (cond b (name ∷ filter test names) (filter test names))
      ≡ one_more false (b ∷ map test names)) [
        | true ↦ none_more names
        | false ↦ one_there names
      ]

first_of_more : (b : Bool) (bs : List Bool) → one_more false (b ∷ bs) ≡ one_more b bs
first_of_more true bs = refl
first_of_more false bs = refl

next_more : (x y : Option LeafPolicy) (bs : List Bool) (next : Option LeafPolicy → Option (Option LeafPolicy))
    → ((found : Option LeafPolicy) → one_more (is_some found) bs ≡ is_some (next found))
    → one_more (is_some x) (is_some y ∷ bs) ≡ is_some (one_at_most x y >>= next)
unfolding one_at_most
next_more x None bs next more = more x
next_more None (Some y) bs next more = more (Some y)
next_more (Some x) (Some y) bs next more = refl

last_more : (x y : Option LeafPolicy) → one_more (is_some x) (is_some y ∷ []) ≡ is_some (one_at_most x y)
unfolding one_at_most
last_more x None = refl
last_more None (Some y) = refl
last_more (Some x) (Some y) = refl

one_some : (x y w : Option LeafPolicy) → one_at_most x y ≡ Some w → is_some w ≡ (is_some x || is_some y)
unfolding one_at_most
one_some None None w e = let same : None ≡ w = cc in ap is_some (sym same)
one_some (Some x) None w e = let same : Some x ≡ w = cc in ap is_some (sym same)
one_some None (Some y) w e = let same : Some y ≡ w = cc in ap is_some (sym same)
one_some (Some x) (Some y) w e = absurd cc

-- which of them are there
module _ (t h n r f : Option (List ℕ)) where
  abbrev has_t : Bool
  has_t = is_some (option_map trigger_is t)

  abbrev has_h : Bool
  has_h = is_some (option_map sha_is h)

  abbrev has_n : Bool
  has_n = is_some (option_map name_is n)

  abbrev has_r : Bool
  has_r = is_some (option_map repository_is r)

  abbrev has_f : Bool
  has_f = is_some (option_map ref_is f)

  five_one : one_more has_t (has_h ∷ has_n ∷ has_r ∷ has_f ∷ []) ≡ is_some (one_of_five t h n r f)
  unfolding one_of_five
  five_one =
      next_more (option_map trigger_is t) (option_map sha_is h) (has_n ∷ has_r ∷ has_f ∷ []) _
      (λ two. next_more two (option_map name_is n) (has_r ∷ has_f ∷ []) _
      (λ three. next_more three (option_map repository_is r) (has_f ∷ []) _
      (λ four. last_more four (option_map ref_is f))))

  five_some : (w : Option LeafPolicy) → one_of_five t h n r f ≡ Some w
      → is_some w ≡ ((((has_t || has_h) || has_n) || has_r) || has_f)
  unfolding one_of_five
  five_some w e =
      let two = bind_is (one_at_most (option_map trigger_is t) (option_map sha_is h)) _ w e in
      let three = bind_is (one_at_most two.0 (option_map name_is n)) _ w two.2 in
      let four = bind_is (one_at_most three.0 (option_map repository_is r)) _ w three.2 in
      one_some four.0 (option_map ref_is f) w four.2
      ∙ ap (λ b. b || has_f) (one_some three.0 (option_map repository_is r) four.0 four.1
      ∙ ap (λ b. b || has_r) (one_some two.0 (option_map name_is n) three.0 three.1
      ∙ ap (λ b. b || has_n) (one_some (option_map trigger_is t) (option_map sha_is h) two.0 two.1)))

module _ (ms : Members) where
  abbrev there : List ℕ → Bool
  there name = is_some (member_in name (object ms))

  abbrev text_holds : List ℕ → Bool
  text_holds name = row_holds (optional_row name text_table) (object ms)

  abbrev nothing_holds : List ℕ → Bool
  nothing_holds name = row_holds (optional_row name nothing_table) (object ms)

  text_read : (name : List ℕ) → text_holds name ≡ is_some (optional text_of name (object ms))
  text_read name = optional_holds text_of text_table text_is name ms

  there_as : (name : List ℕ) (made : List ℕ → LeafPolicy) (read : Option (List ℕ))
      → optional text_of name (object ms) ≡ Some read → there name ≡ is_some (option_map made read)
  there_as name made read is = optional_there text_of name ms read is ∙ some_of-map made read

  same_five : (a b c d e a' b' c' d' e' : Bool) → a ≡ a' → b ≡ b' → c ≡ c' → d ≡ d' → e ≡ e'
      → one_more a (b ∷ c ∷ d ∷ e ∷ []) ≡ one_more a' (b' ∷ c' ∷ d' ∷ e' ∷ [])
  same_five a b c d e a' b' c' d' e' p q r s t = rw (p, q, r, s, t) refl

  same_any : (a b c d e a' b' c' d' e' : Bool) → a ≡ a' → b ≡ b' → c ≡ c' → d ≡ d' → e ≡ e'
      → ((((a || b) || c) || d) || e) ≡ ((((a' || b') || c') || d') || e')
  same_any a b c d e a' b' c' d' e' p q r s t = rw (p, q, r, s, t) refl

  abbrev one_holds : Bool
  one_holds = row_holds (oneof_row workflow_names) (object ms)

  workflow_holds : (text_holds (codes "trigger") && (text_holds (codes "sha") && (text_holds (codes "name")
      && (text_holds (codes "repository") && (text_holds (codes "ref") && one_holds)))))
      ≡ is_some (workflow_policy (object ms))
  unfolding workflow_names workflow_policy
  workflow_holds =
      step _ _ _ _ (text_read (codes "trigger"))
      (λ t is_t. step _ _ _ _ (text_read (codes "sha"))
      (λ h is_h. step _ _ _ _ (text_read (codes "name"))
      (λ n is_n. step _ _ _ _ (text_read (codes "repository"))
      (λ r is_r. step _ _ _ _ (text_read (codes "ref"))
      (λ f is_f. one_there there workflow_names
      ∙ first_of_more (there (codes "trigger"))
      (map there (codes "sha" ∷ codes "name" ∷ codes "repository" ∷ codes "ref" ∷ []))
      ∙ same_five _ _ _ _ _ _ _ _ _ _ (there_as (codes "trigger") trigger_is t is_t) (there_as (codes "sha") sha_is h is_h)
      (there_as (codes "name") name_is n is_n) (there_as (codes "repository") repository_is r is_r)
      (there_as (codes "ref") ref_is f is_f)
      ∙ five_one t h n r f)))))

  -- a policy of the workflow is asked for if and only if a member is there
  workflow_some : (w : Option LeafPolicy) → workflow_policy (object ms) ≡ Some w → is_some w ≡ asks_workflow (object ms)
  unfolding workflow_policy
  workflow_some w e =
      let t = bind_is (optional text_of (codes "trigger") (object ms)) _ w e in
      let h = bind_is (optional text_of (codes "sha") (object ms)) _ w t.2 in
      let n = bind_is (optional text_of (codes "name") (object ms)) _ w h.2 in
      let r = bind_is (optional text_of (codes "repository") (object ms)) _ w n.2 in
      let f = bind_is (optional text_of (codes "ref") (object ms)) _ w r.2 in
      five_some t.0 h.0 n.0 r.0 f.0 w f.2
      ∙ sym (same_any _ _ _ _ _ _ _ _ _ _ (there_as (codes "trigger") trigger_is t.0 t.1)
      (there_as (codes "sha") sha_is h.0 h.1) (there_as (codes "name") name_is n.0 n.1)
      (there_as (codes "repository") repository_is r.0 r.1) (there_as (codes "ref") ref_is f.0 f.1))

-- ---- a rule about the workflow

nothing_after : {A B : Type 0} → (found : Option A) (next : A → Option B) → ((x : A) → next x ≡ None)
    → (found >>= next) ≡ None
nothing_after None next none = refl
nothing_after (Some x) next none = none x

abbrev text_there : Option Data → Option (Option (List ℕ))
text_there = there_or (Some None) (λ d. option_map Some (text_of d))

abbrev ends_with : Option LeafPolicy → Option Data → Option Data → Option LeafPolicy
ends_with w identity issuer =
    text_there identity >>= λ i. text_there issuer >>= λ s. issuer_policy i s >>= λ b. exactly_one b w

-- beside a policy of the workflow neither an identity nor an issuer is there
beside_workflow : (p : LeafPolicy) (identity issuer : Option Data)
    → (passes true (fits nothing_table) identity && (passes true (fits nothing_table) issuer && true))
    ≡ is_some (ends_with (Some p) identity issuer)
unfolding issuer_policy exactly_one
beside_workflow p None None = refl
beside_workflow p None (Some s) =
    elim (text_of s) as (λ read. false ≡ is_some (option_map Some read >>= λ s. issuer_policy None s
    >>= λ b. exactly_one b (Some p))) [
      | None ↦ refl
      | Some text ↦ refl
    ]
beside_workflow p (Some i) issuer =
    elim (text_of i) as (λ read. false ≡ is_some (option_map Some read >>= λ i. text_there issuer
    >>= λ s. issuer_policy i s >>= λ b. exactly_one b (Some p))) [
      | None ↦ refl
      | Some text ↦ by_issuer text issuer
    ]
  where
    by_issuer : (identity : List ℕ) (issuer : Option Data)
        → false ≡ is_some (text_there issuer >>= λ s. issuer_policy (Some identity) s >>= λ b. exactly_one b (Some p))
    by_issuer identity None = refl
    by_issuer identity (Some s) =
        elim (text_of s) as (λ read. false ≡ is_some (option_map Some read >>= λ s. issuer_policy (Some identity) s
        >>= λ b. exactly_one b (Some p))) [
          | None ↦ refl
          | Some text ↦ refl
        ]

-- ---- a rule about the issuer

issuer_ends : (identity : Option (List ℕ)) (issuer : Option Data)
    → (passes false (fits text_table) issuer && true)
    ≡ is_some (text_there issuer >>= λ s. issuer_policy identity s >>= λ b. exactly_one b None)
unfolding issuer_policy exactly_one
issuer_ends None None = refl
issuer_ends (Some i) None = refl
issuer_ends identity (Some s) = rw (text_is s) (by_text identity (text_of s)) where
  by_text : (identity : Option (List ℕ)) (read : Option (List ℕ))
      → (is_some read && true)
      ≡ is_some (option_map Some read >>= λ s. issuer_policy identity s >>= λ b. exactly_one b None)
  by_text identity None = refl
  by_text None (Some text) = refl
  by_text (Some i) (Some text) = refl

absent_text : (name : List ℕ) (ms : Members) → is_some (member_in name (object ms)) ≡ false
    → optional text_of name (object ms) ≡ Some None
unfolding optional_or member_of
absent_text name ms = by_member (member_in name (object ms)) where
  by_member : (found : Option Data) → is_some found ≡ false → text_there found ≡ Some None
  by_member None absent = refl
  by_member (Some d) absent = absurd cc

neither : (a b : Bool) → (a || b) ≡ false → (a ≡ false) × (b ≡ false)
neither true b e = absurd cc
neither false b e = (refl, e)

no_workflow : (ms : Members) → asks_workflow (object ms) ≡ false → workflow_policy (object ms) ≡ Some None
unfolding workflow_policy one_of_five one_at_most
no_workflow ms none =
    let f = neither _ _ none in
    let r = neither _ _ f.0 in
    let n = neither _ _ r.0 in
    let t = neither _ _ n.0 in
    rw (
      absent_text (codes "trigger") ms t.0,
      absent_text (codes "sha") ms t.1,
      absent_text (codes "name") ms n.1,
      absent_text (codes "repository") ms r.1,
      absent_text (codes "ref") ms f.1,
    ) refl

-- ---- a rule

module _ (ms : Members) where
  workflow_rule : asks_workflow (object ms) ≡ true → fits workflow_table (object ms) ≡ is_some (rule_of (object ms))
  unfolding workflow_table rule_of optional_or member_of
  workflow_rule asks =
      regrouped (text_holds ms (codes "trigger")) (text_holds ms (codes "sha")) (text_holds ms (codes "name"))
      (text_holds ms (codes "repository")) (text_holds ms (codes "ref")) (one_holds ms)
      (nothing_holds ms (codes "identity") && (nothing_holds ms (codes "issuer") && true))
      ∙ ap (λ b. b && (nothing_holds ms (codes "identity") && (nothing_holds ms (codes "issuer") && true)))
      (workflow_holds ms)
      ∙ by_workflow (workflow_policy (object ms)) refl
    where
      regrouped : (t h n r f one x : Bool) → (t && (h && (n && (r && (f && (one && x))))))
          ≡ ((t && (h && (n && (r && (f && one))))) && x)
      regrouped t h n r f one x = simp and_assoc

      by_workflow : (found : Option (Option LeafPolicy)) → workflow_policy (object ms) ≡ found
          → (is_some found && (nothing_holds ms (codes "identity") && (nothing_holds ms (codes "issuer") && true)))
          ≡ is_some (text_there (member_in (codes "identity") (object ms)) >>= λ i.
          text_there (member_in (codes "issuer") (object ms)) >>= λ s. issuer_policy i s
          >>= λ b. found >>= λ w. exactly_one b w)
      by_workflow None is =
          ap is_some (sym (nothing_after (text_there (member_in (codes "identity") (object ms))) _
          (λ i. nothing_after (text_there (member_in (codes "issuer") (object ms))) _
          (λ s. nothing_after (issuer_policy i s) _ (λ b. refl)))))
      by_workflow (Some None) is = let some = workflow_some ms None is ∙ asks in absurd cc
      by_workflow (Some (Some p)) is =
          beside_workflow p (member_in (codes "identity") (object ms)) (member_in (codes "issuer") (object ms))

  issuer_rule : asks_workflow (object ms) ≡ false → fits issuer_table (object ms) ≡ is_some (rule_of (object ms))
  unfolding issuer_table rule_of optional_or member_of
  issuer_rule none =
      step _ _ _ _ (text_read ms (codes "identity"))
      (λ identity _. rw (no_workflow ms none) (issuer_last identity))
    where
      issuer_last : (identity : Option (List ℕ))
          → (row_holds (required_row (codes "issuer") text_table) (object ms) && true)
          ≡ is_some (optional text_of (codes "issuer") (object ms) >>= λ s. issuer_policy identity s
          >>= λ b. exactly_one b None)
      issuer_last identity = issuer_ends identity (member_in (codes "issuer") (object ms))

  rule_object : fits rule_table (object ms) ≡ is_some (rule_of (object ms))
  unfolding rule_table
  rule_object = by_workflow (asks_workflow (object ms)) refl where
    by_workflow : (asks : Bool) → asks_workflow (object ms) ≡ asks
        → fits (if asks then workflow_table else issuer_table) (object ms) ≡ is_some (rule_of (object ms))
    by_workflow true is = workflow_rule is
    by_workflow false is = issuer_rule is

rule_unread : (d : Data) → as_object d ≡ None → rule_of d ≡ None
unfolding rule_of
rule_unread d none = rw (not_optional None (λ d. option_map Some (text_of d)) (codes "identity") d none) refl

rule_unfit : (d : Data) → as_object d ≡ None → fits rule_table d ≡ false
unfolding rule_table workflow_table issuer_table
rule_unfit d none =
    elim (asks_workflow d) as (λ asks. fits (if asks then workflow_table else issuer_table) d ≡ false) [
      | true ↦ rw none refl
      | false ↦ rw none refl
    ]

pub rule_is : IsTableOf rule_of rule_table
rule_is = record_is rule_of rule_table rule_object rule_unread rule_unfit

-- ---- at least one rule

some_rules : (found : Option (List LeafPolicy)) → is_some (found >>= as_many (nat_lt 0)) ≡ is_some (found >>= at_least_one)
some_rules None = refl
some_rules (Some []) = refl
some_rules (Some (rule ∷ rules)) = rw (lt-ltb 0 (length (rule ∷ rules)) (omega arith)) refl

abbrev rules_of : Data → Option (List LeafPolicy)
rules_of d = list_each rule_of d >>= at_least_one

rules_are : IsTableOf rules_of rules_table
unfolding rules_table
rules_are d = sized_table (nat_lt 0) rule_of rule_table rule_is d ∙ some_rules (list_each rule_of d)

-- ---- a policy

abbrev list_there : Option Data → Option (List LeafPolicy)
list_there = there_or None (list_each rule_of)

-- the rules of one member, with nothing in the other
abbrev under_these : Option Data → Option Data → Option (List LeafPolicy)
under_these these others =
    list_there these >>= λ rules. there_or (Some None) (λ d. option_map Some (no_kind d)) others
    >>= λ _. at_least_one rules

abbrev policy_by : Option Data → Option Data → Option RequestPolicy
policy_by all any =
    option_or (option_map policy.All (under_these all any)) (option_map policy.Any (under_these any all))

alone : (these : Option Data) → passes false (fits rules_table) these ≡ is_some (under_these these None)
alone None = refl
alone (Some d) = rules_are d

none_beside : (these : Option Data) (other : Data) → under_these these (Some other) ≡ None
none_beside these other = nothing_after (list_there these) _ (λ rules. refl)

or_none : {A B : Type 0} → (f : A → B) (found : Option A) → is_some found ≡ is_some (option_or (option_map f found) None)
or_none f None = refl
or_none f (Some x) = refl

all_alone : (all : Option Data) → (passes false (fits rules_table) all && true) ≡ is_some (policy_by all None)
all_alone all =
    last_row (under_these all None) (passes false (fits rules_table) all) (alone all)
    ∙ or_none policy.All (under_these all None)

any_there : (all : Option Data) (any : Data)
    → (passes true (fits rules_table) all && (fits rules_table any && (one_more (is_some all) (true ∷ []) && true)))
    ≡ is_some (policy_by all (Some any))
any_there None any =
    last_row (under_these (Some any) None) (fits rules_table any) (alone (Some any))
    ∙ some_of-map policy.Any (under_these (Some any) None)
any_there (Some all) any =
    rw (
      and_false (fits rules_table any),
      and_false (fits rules_table all),
      none_beside (Some all) any,
      none_beside (Some any) all,
    ) refl

module _ (ms : Members) where
  any_object : fits any_table (object ms)
      ≡ (passes true (fits rules_table) (member_in (codes "all") (object ms))
      && (passes false (fits rules_table) (member_in (codes "any") (object ms))
      && (one_more (there ms (codes "all")) (there ms (codes "any") ∷ []) && true)))
  unfolding any_table
  any_object =
      ap (λ b. passes true (fits rules_table) (member_in (codes "all") (object ms))
      && (passes false (fits rules_table) (member_in (codes "any") (object ms)) && (b && true)))
      (one_there (there ms) (codes "all" ∷ codes "any" ∷ [])
      ∙ first_of_more (there ms (codes "all")) (there ms (codes "any") ∷ []))

  policy_object : fits policy_table (object ms) ≡ is_some (request_policy_of (object ms))
  unfolding policy_table all_table request_policy_of rules_under required optional_or member_of
  policy_object = by_any (member_in (codes "any") (object ms)) refl where
    by_any : (any : Option Data) → member_in (codes "any") (object ms) ≡ any
        → fits (if is_some any then any_table else all_table) (object ms)
        ≡ is_some (policy_by (member_in (codes "all") (object ms)) any)
    by_any None is = all_alone (member_in (codes "all") (object ms))
    by_any (Some any) is = any_object ∙ rw is (any_there (member_in (codes "all") (object ms)) any)

policy_unread : (d : Data) → as_object d ≡ None → request_policy_of d ≡ None
unfolding request_policy_of rules_under
policy_unread d none =
    rw (not_required (list_each rule_of) (codes "all") d none, not_required (list_each rule_of) (codes "any") d none) refl

policy_unfit : (d : Data) → as_object d ≡ None → fits policy_table d ≡ false
unfolding policy_table any_table all_table
policy_unfit d none =
    elim (is_some (member_in (codes "any") d)) as (λ any. fits (if any then any_table else all_table) d ≡ false) [
      | true ↦ rw none refl
      | false ↦ rw none refl
    ]

pub policy_is : IsTableOf request_policy_of policy_table
policy_is = record_is request_policy_of policy_table policy_object policy_unread policy_unfit
