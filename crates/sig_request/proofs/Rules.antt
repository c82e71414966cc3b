-- *Rule*: what is read as a rule has exactly the members of that rule.
use Rattle.std.proofs.Common.{◌≡◌, ℕ, List, codes, Option, Some, None, option_map, refl, sym, ap, subst, ◌∙◌}
use Rattle.sig_base.proofs.OptionSteps.{some_is, bind_is}
use Rattle.sig_base.specs.ByText.{text_lookup}
use Rattle.sig_base.specs.OptionSteps.{◌>>=◌}
use Rattle.sig_json.specs.Data.{Data, null, boolean, number, string, array, object}
use Rattle.sig_json.specs.Kinds.{text_of}
use Rattle.sig_json.specs.Member.{member_of, optional, optional_or, there_or}
use Rattle.sig_policy.specs.declared.request.LeafPolicy.{LeafPolicy}
use Rattle.sig_policy.specs.declared.request.LeafPolicy.TheVariants as rule
use Rattle.sig_request.specs.Policy.{issuer_policy, one_at_most, one_of_five, workflow_policy, exactly_one, rule_of}
use Rattle.sig_request.specs.Policy.{trigger_is, sha_is, name_is, repository_is, ref_is}
use Rattle.sig_request.specs.Rules.{IsRule, members_of_rule}

-- ---- one member

abbrev Text : Type 0
Text = Option (List ℕ)

abbrev found : LeafPolicy → Option LeafPolicy
found r = Some r

there_is : (value : Data) (text : List ℕ) → text_of value ≡ Some text → value ≡ string text
unfolding text_of
there_is null text e = absurd cc
there_is (boolean b) text e = absurd cc
there_is (number n) text e = absurd cc
there_is (string s) text e = ap (λ (t : List ℕ). string t) (some_is s text e)
there_is (array ds) text e = absurd cc
there_is (object ms) text e = absurd cc

of_value : (value : Data) (read found : Text) → text_of value ≡ read → option_map Some read ≡ Some found
    → Some value ≡ option_map string found
of_value value None found is e = absurd cc
of_value value (Some text) None is e = absurd cc
of_value value (Some text) (Some other) is e =
    let same : text ≡ other = cc in
    ap (λ (v : Data). Some v) (there_is value text is) ∙ ap (λ (t : List ℕ). Some (string t)) same

member_found : (there : Option (Option Data)) (found : Text)
    → (there >>= there_or (Some None) (λ d. option_map Some (text_of d))) ≡ Some found
    → there ≡ Some (option_map string found)
member_found None found e = absurd cc
member_found (Some None) found e = ap (λ (f : Text). Some (option_map string f)) (some_is None found e)
member_found (Some (Some value)) found e =
    ap (λ (o : Option Data). Some o) (of_value value (text_of value) found refl e)

member_takes : (name : List ℕ) (d : Data) (found : Text) → optional text_of name d ≡ Some found
    → member_of name d ≡ Some (option_map string found)
unfolding optional_or
member_takes name d found e = member_found (member_of name d) found e

member_again : (name : List ℕ) (d : Data) (found : Text) → member_of name d ≡ Some (option_map string found)
    → optional text_of name d ≡ Some found
unfolding optional_or text_of
member_again name d None e = rw e refl
member_again name d (Some text) e = rw e refl

-- ---- the seven members

-- the object has these texts
record Has (d : Data) (identity issuer trigger sha name repository git_ref : Text) : Type 0 where
  of_identity : member_of (codes "identity") d ≡ Some (option_map string identity)
  of_issuer : member_of (codes "issuer") d ≡ Some (option_map string issuer)
  of_trigger : member_of (codes "trigger") d ≡ Some (option_map string trigger)
  of_sha : member_of (codes "sha") d ≡ Some (option_map string sha)
  of_name : member_of (codes "name") d ≡ Some (option_map string name)
  of_repository : member_of (codes "repository") d ≡ Some (option_map string repository)
  of_ref : member_of (codes "ref") d ≡ Some (option_map string git_ref)

abbrev text_in : List ℕ → LeafPolicy → Text
text_in name r = text_lookup name (members_of_rule r)

-- those of the rule
abbrev HasOf : Data → LeafPolicy → Type 0
HasOf d r =
    Has d (text_in (codes "identity") r) (text_in (codes "issuer") r) (text_in (codes "trigger") r)
    (text_in (codes "sha") r) (text_in (codes "name") r) (text_in (codes "repository") r) (text_in (codes "ref") r)

of_has : (d : Data) (r other : LeafPolicy) → HasOf d r → found r ≡ found other → IsRule d other
of_has d r other h e =
    subst (λ (w : LeafPolicy). IsRule d w) (some_is r other e)
    (h.of_identity, (h.of_issuer, (h.of_trigger, (h.of_sha, (h.of_name, (h.of_repository, (h.of_ref, tt)))))))

-- a rule about the workflow
module _ (d : Data) (r : LeafPolicy) where
  by_five : (trigger sha name repository git_ref : Text) → Has d None None trigger sha name repository git_ref
      → one_of_five trigger sha name repository git_ref ≡ Some (found r) → IsRule d r
  unfolding one_of_five one_at_most
  by_five (Some x) None None None None h e = of_has d (trigger_is x) r h (some_is _ _ e)
  by_five None (Some x) None None None h e = of_has d (sha_is x) r h (some_is _ _ e)
  by_five None None (Some x) None None h e = of_has d (name_is x) r h (some_is _ _ e)
  by_five None None None (Some x) None h e = of_has d (repository_is x) r h (some_is _ _ e)
  by_five None None None None (Some x) h e = of_has d (ref_is x) r h (some_is _ _ e)
  by_five None None None None None h e = absurd cc
  by_five (Some x) (Some y) name repository git_ref h e = absurd cc
  by_five (Some x) None (Some y) repository git_ref h e = absurd cc
  by_five (Some x) None None (Some y) git_ref h e = absurd cc
  by_five (Some x) None None None (Some y) h e = absurd cc
  by_five None (Some x) (Some y) repository git_ref h e = absurd cc
  by_five None (Some x) None (Some y) git_ref h e = absurd cc
  by_five None (Some x) None None (Some y) h e = absurd cc
  by_five None None (Some x) (Some y) git_ref h e = absurd cc
  by_five None None (Some x) None (Some y) h e = absurd cc
  by_five None None None (Some x) (Some y) h e = absurd cc

  -- no rule about the workflow
  no_workflow : (identity issuer trigger sha name repository git_ref : Text)
      → Has d identity issuer trigger sha name repository git_ref
      → one_of_five trigger sha name repository git_ref ≡ Some None → Has d identity issuer None None None None None
  unfolding one_of_five one_at_most
  no_workflow identity issuer None None None None None h e = h
  no_workflow identity issuer (Some x) None None None None h e = absurd cc
  no_workflow identity issuer None (Some x) None None None h e = absurd cc
  no_workflow identity issuer None None (Some x) None None h e = absurd cc
  no_workflow identity issuer None None None (Some x) None h e = absurd cc
  no_workflow identity issuer None None None None (Some x) h e = absurd cc
  no_workflow identity issuer (Some x) (Some y) name repository git_ref h e = absurd cc
  no_workflow identity issuer (Some x) None (Some y) repository git_ref h e = absurd cc
  no_workflow identity issuer (Some x) None None (Some y) git_ref h e = absurd cc
  no_workflow identity issuer (Some x) None None None (Some y) h e = absurd cc
  no_workflow identity issuer None (Some x) (Some y) repository git_ref h e = absurd cc
  no_workflow identity issuer None (Some x) None (Some y) git_ref h e = absurd cc
  no_workflow identity issuer None (Some x) None None (Some y) h e = absurd cc
  no_workflow identity issuer None None (Some x) (Some y) git_ref h e = absurd cc
  no_workflow identity issuer None None (Some x) None (Some y) h e = absurd cc
  no_workflow identity issuer None None None (Some x) (Some y) h e = absurd cc

  by_issuer : (identity issuer : Text) → Has d identity issuer None None None None None
      → issuer_policy identity issuer ≡ Some (found r) → IsRule d r
  unfolding issuer_policy
  by_issuer None (Some y) h e = of_has d (rule.OIDCIssuer (record { 0 = y })) r h (some_is _ _ e)
  by_issuer (Some x) (Some y) h e =
      of_has d (rule.Identity (record { identity = x; issuer = y })) r h (some_is _ _ e)
  by_issuer None None h e = absurd cc
  by_issuer (Some x) None h e = absurd cc

  no_issuer : (identity issuer : Text) → issuer_policy identity issuer ≡ Some None
      → (identity ≡ None) × (issuer ≡ None)
  unfolding issuer_policy
  no_issuer None None e = (refl, refl)
  no_issuer None (Some y) e = absurd cc
  no_issuer (Some x) None e = absurd cc
  no_issuer (Some x) (Some y) e = absurd cc

  by_parts : (identity issuer trigger sha name repository git_ref : Text) (of_issuer of_workflow : Option LeafPolicy)
      → Has d identity issuer trigger sha name repository git_ref → issuer_policy identity issuer ≡ Some of_issuer
      → one_of_five trigger sha name repository git_ref ≡ Some of_workflow → exactly_one of_issuer of_workflow ≡ Some r
      → IsRule d r
  unfolding exactly_one
  by_parts identity issuer trigger sha name repository git_ref (Some x) None h one five e =
      by_issuer identity issuer (no_workflow identity issuer trigger sha name repository git_ref h five)
      (one ∙ ap (λ (o : Option LeafPolicy). Some o) e)
  by_parts identity issuer trigger sha name repository git_ref None (Some x) h one five e =
      let none = no_issuer identity issuer one in
      by_five trigger sha name repository git_ref
      (subst (λ (o : Text). Has d None o trigger sha name repository git_ref) none.1
      (subst (λ (o : Text). Has d o issuer trigger sha name repository git_ref) none.0 h))
      (five ∙ ap (λ (o : Option LeafPolicy). Some o) e)
  by_parts identity issuer trigger sha name repository git_ref None None h one five e = absurd cc
  by_parts identity issuer trigger sha name repository git_ref (Some x) (Some y) h one five e = absurd cc

-- ---- a rule

pub rule_takes : (d : Data) (r : LeafPolicy) → rule_of d ≡ Some r → IsRule d r
unfolding rule_of workflow_policy
rule_takes d r e =
    let identity = bind_is (optional text_of (codes "identity") d) _ r e in
    let issuer = bind_is (optional text_of (codes "issuer") d) _ r identity.2 in
    let by_issuer = bind_is (issuer_policy identity.0 issuer.0) _ r issuer.2 in
    let by_workflow = bind_is (workflow_policy d) _ r by_issuer.2 in
    let trigger = bind_is (optional text_of (codes "trigger") d) _ by_workflow.0 by_workflow.1 in
    let sha = bind_is (optional text_of (codes "sha") d) _ by_workflow.0 trigger.2 in
    let name = bind_is (optional text_of (codes "name") d) _ by_workflow.0 sha.2 in
    let repository = bind_is (optional text_of (codes "repository") d) _ by_workflow.0 name.2 in
    let git_ref = bind_is (optional text_of (codes "ref") d) _ by_workflow.0 repository.2 in
    by_parts d r identity.0 issuer.0 trigger.0 sha.0 name.0 repository.0 git_ref.0 by_issuer.0 by_workflow.0
    (record {
      of_identity = member_takes (codes "identity") d identity.0 identity.1;
      of_issuer = member_takes (codes "issuer") d issuer.0 issuer.1;
      of_trigger = member_takes (codes "trigger") d trigger.0 trigger.1;
      of_sha = member_takes (codes "sha") d sha.0 sha.1;
      of_name = member_takes (codes "name") d name.0 name.1;
      of_repository = member_takes (codes "repository") d repository.0 repository.1;
      of_ref = member_takes (codes "ref") d git_ref.0 git_ref.1;
    })
    by_issuer.1 git_ref.2 by_workflow.2

-- what the members are read as
read_as : (d : Data) (r : LeafPolicy) → IsRule d r
    → rule_of d ≡ (do
      by_issuer ← issuer_policy (text_in (codes "identity") r) (text_in (codes "issuer") r)
      by_workflow ←
          one_of_five (text_in (codes "trigger") r) (text_in (codes "sha") r) (text_in (codes "name") r)
          (text_in (codes "repository") r) (text_in (codes "ref") r)
      exactly_one by_issuer by_workflow)
unfolding rule_of workflow_policy
read_as d r is =
    rw (
      member_again (codes "identity") d (text_in (codes "identity") r) is.0,
      member_again (codes "issuer") d (text_in (codes "issuer") r) is.1.0,
      member_again (codes "trigger") d (text_in (codes "trigger") r) is.1.1.0,
      member_again (codes "sha") d (text_in (codes "sha") r) is.1.1.1.0,
      member_again (codes "name") d (text_in (codes "name") r) is.1.1.1.1.0,
      member_again (codes "repository") d (text_in (codes "repository") r) is.1.1.1.1.1.0,
      member_again (codes "ref") d (text_in (codes "ref") r) is.1.1.1.1.1.1.0,
    ) refl

pub rule_again : (d : Data) (r : LeafPolicy) → IsRule d r → rule_of d ≡ Some r
unfolding issuer_policy one_of_five one_at_most exactly_one
rule_again d (rule.OIDCIssuer p) is = read_as d (rule.OIDCIssuer p) is
rule_again d (rule.GitHubWorkflowTrigger p) is = read_as d (rule.GitHubWorkflowTrigger p) is
rule_again d (rule.GitHubWorkflowSHA p) is = read_as d (rule.GitHubWorkflowSHA p) is
rule_again d (rule.GitHubWorkflowName p) is = read_as d (rule.GitHubWorkflowName p) is
rule_again d (rule.GitHubWorkflowRepository p) is = read_as d (rule.GitHubWorkflowRepository p) is
rule_again d (rule.GitHubWorkflowRef p) is = read_as d (rule.GitHubWorkflowRef p) is
rule_again d (rule.Identity p) is = read_as d (rule.Identity p) is
