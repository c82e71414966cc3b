-- What the rules of a policy ask for, by sets: one rule more, and whether the policy holds.
use Rattle.std.proofs.Common.{◌≡◌, ℕ, ◌+◌, ◌<◌, Bool, ◌||◌, not, List, take, length, get_or, refl, sym, ap, ◌∙◌}
use Rattle.std.proofs.Math.Bool.{or_comm}
use Rattle.std.proofs.lemmas.List.Folds.{list_any_more}
use Rattle.std.specs.List.{list_all, list_any}
use Rattle.sig_certificate.specs.Certificate.{Cert}
use Rattle.sig_policy.proofs.AnyLaws.{all_unless, any_same}
use Rattle.sig_policy.specs.AskedTexts.{AreAskedBy, Tests, one_asked, passes, said_tests, unsaid_tests}
use Rattle.sig_policy.specs.Requests.{holds_by, request_holds}
use Rattle.sig_policy.specs.Said.{Values, extension_values_of}
use Rattle.sig_policy.specs.declared.asked_texts.AskedTexts.{AskedTexts}
use Rattle.sig_policy.specs.declared.request.LeafPolicy.{LeafPolicy}
use Rattle.sig_policy.specs.declared.request.LeafPolicy.TheVariants as rule
use Rattle.sig_policy.specs.declared.request.RequestPolicy.TheVariants.{All, Any}

-- ---- one rule more

pub one_rule_more : (t : Tests) (rules : List LeafPolicy) (i : ℕ) (r : LeafPolicy) (before after : Bool)
    → i < length rules → r ≡ get_or rules i r → after ≡ (passes t r || before)
    → before ≡ list_any (passes t) (take i rules) → after ≡ list_any (passes t) (take (i + 1) rules)
one_rule_more t rules i r before after below is grown so_far =
    grown ∙ or_comm (passes t r) before ∙ ap (λ (b : Bool). b || passes t r) so_far
    ∙ ap (λ (q : LeafPolicy). list_any (passes t) (take i rules) || passes t q) is
    ∙ sym (list_any_more (passes t) rules i r below)

-- ---- whether a policy holds

said_passes : (v : Values) (r : LeafPolicy) → passes (said_tests v) r ≡ holds_by r v
said_passes v (rule.OIDCIssuer p) = refl
said_passes v (rule.GitHubWorkflowTrigger p) = refl
said_passes v (rule.GitHubWorkflowSHA p) = refl
said_passes v (rule.GitHubWorkflowName p) = refl
said_passes v (rule.GitHubWorkflowRepository p) = refl
said_passes v (rule.GitHubWorkflowRef p) = refl
said_passes v (rule.Identity p) = refl

unsaid_passes : (v : Values) (r : LeafPolicy) → passes (unsaid_tests v) r ≡ not (holds_by r v)
unsaid_passes v (rule.OIDCIssuer p) = refl
unsaid_passes v (rule.GitHubWorkflowTrigger p) = refl
unsaid_passes v (rule.GitHubWorkflowSHA p) = refl
unsaid_passes v (rule.GitHubWorkflowName p) = refl
unsaid_passes v (rule.GitHubWorkflowRepository p) = refl
unsaid_passes v (rule.GitHubWorkflowRef p) = refl
unsaid_passes v (rule.Identity p) = refl

module _ (asked : AskedTexts) (rules : List LeafPolicy) (are : AreAskedBy rules asked) (v : Values) (c : Cert)
    (said : v ≡ extension_values_of c) where
  pub any_asked : one_asked (said_tests v) asked ≡ request_holds (Any rules) c
  any_asked =
      are (said_tests v) ∙ any_same (passes (said_tests v)) (λ r. holds_by r v) (said_passes v) rules
      ∙ ap (λ (w : Values). list_any (λ r. holds_by r w) rules) said

  pub all_asked : not (one_asked (unsaid_tests v) asked) ≡ request_holds (All rules) c
  all_asked =
      ap not (are (unsaid_tests v)
      ∙ any_same (passes (unsaid_tests v)) (λ r. not (holds_by r v)) (unsaid_passes v) rules)
      ∙ sym (all_unless (λ r. holds_by r v) rules)
      ∙ ap (λ (w : Values). list_all (λ r. holds_by r w) rules) said
