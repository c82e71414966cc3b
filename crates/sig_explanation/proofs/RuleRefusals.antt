-- The refusal of a rule, and the error that says it.
use Rattle.std.proofs.Common.{◌≡◌, ℕ, List, Bool, true, false, cond, Option, Some, None, ap}
use Rattle.std.specs.Prelude.{codes}
use Rattle.sig_certificate.specs.Certificate.{Cert}
use Rattle.sig_policy.specs.Identities.{name_refusal}
use Rattle.sig_policy.specs.Refusals.{IsRefusal, IsRefusalOf, Refusal, all_of, any_of, check_failed, not_found}
use Rattle.sig_policy.specs.Requests.{leaf_holds, leaf_policy_refusal, refusal_by}
use Rattle.sig_policy.specs.Said.{Values, extension_values_of}
use Rattle.sig_policy.specs.Single.{is_asked_text, single_refusal}
use Rattle.sig_policy.specs.declared.failure.PolicyError.{PolicyError, out-PolicyError}
use Rattle.sig_policy.specs.declared.request.LeafPolicy.{LeafPolicy}
use Rattle.sig_policy.specs.declared.request.LeafPolicy.TheVariants as leaf
use Rattle.sig_explanation.specs.KeptRows.{inner_policy_rows}
use Rattle.sig_explanation.specs.Rules.{judgement, judgement_rows, refused_rows}

-- the refusal is of no list
abbrev IsPlain : Refusal → Type 0
IsPlain not_found = Unit {0}
IsPlain (check_failed _ _ _) = Unit {0}
IsPlain (all_of _ _) = ⊥
IsPlain (any_of _) = ⊥

single_plain : (name asked : List ℕ) (text : Option (List ℕ)) → IsPlain (single_refusal name asked text)
single_plain name asked None = tt
single_plain name asked (Some actual) = tt

name_plain : (identity : List ℕ) (texts : Option (List (List ℕ))) → IsPlain (name_refusal identity texts)
name_plain identity None = tt
name_plain identity (Some texts) = tt

leaf_plain : (rule : LeafPolicy) (v : Values) → IsPlain (refusal_by rule v)
leaf_plain (leaf.OIDCIssuer p) v = single_plain _ _ v.issuer
leaf_plain (leaf.GitHubWorkflowTrigger p) v = single_plain _ _ v.trigger
leaf_plain (leaf.GitHubWorkflowSHA p) v = single_plain _ _ v.sha
leaf_plain (leaf.GitHubWorkflowName p) v = single_plain _ _ v.name
leaf_plain (leaf.GitHubWorkflowRepository p) v = single_plain _ _ v.repository
leaf_plain (leaf.GitHubWorkflowRef p) v = single_plain _ _ v.git_ref
leaf_plain (leaf.Identity p) v =
    elim (is_asked_text p.issuer v.issuer) as (λ b. IsPlain (cond b (name_refusal p.identity v.identities) (single_refusal (codes "OIDCIssuer") p.issuer v.issuer))) [
      | true ↦ name_plain p.identity v.identities
      | false ↦ single_plain (codes "OIDCIssuer") p.issuer v.issuer
    ]

refused_is : (r : Refusal) (e : PolicyError) → IsPlain r → IsRefusal r e → inner_policy_rows e ≡ refused_rows r
unfolding out-PolicyError denote.Hole.Carrier.out
refused_is not_found e plain is = ap inner_policy_rows is
refused_is (check_failed name asked actual) e plain is = ap inner_policy_rows is
refused_is (all_of _ _) e plain is = absurd plain
refused_is (any_of _) e plain is = absurd plain

judged_is : (holds : Bool) (r : Refusal) (e : PolicyError) → IsPlain r
    → IsRefusalOf (cond holds None (Some r)) (Some e) → inner_policy_rows e ≡ judgement_rows (cond holds None (Some r))
judged_is true r e plain is = absurd is
judged_is false r e plain is = refused_is r e plain is

-- what an error keeps of a rule that does not hold is what its judgement has
pub judgement_is : (rule : LeafPolicy) (c : Cert) (e : PolicyError) → IsRefusalOf (judgement rule c) (Some e)
    → inner_policy_rows e ≡ judgement_rows (judgement rule c)
judgement_is rule c e is =
    judged_is (leaf_holds rule c) (leaf_policy_refusal rule c) e (leaf_plain rule (extension_values_of c)) is
