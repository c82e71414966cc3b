-- When a rule of a request holds, and when a policy does, by the certificate's extensions.
use Rattle.std.proofs.Common.{◌≡◌, ℕ, Bool, true, List}
use Rattle.std.specs.Prelude.{◌↔◌}
use Rattle.std.specs.List.{All, Any, list_all, list_any}
use Rattle.std.proofs.lemmas.List.Folds.{Any-from_list_any, list_any-from_Any}
use Rattle.std.proofs.lemmas.List.Sums.{AllPass-from_list_all, list_all-from_AllPass}
use Rattle.sig_certificate.specs.Certificate.{Cert}
use Rattle.sig_der.specs.ObjectIdentifiers.{fulcio}
use Rattle.sig_policy.specs.CertificateWords.{HasText}
use Rattle.sig_policy.specs.MetRule.{IsMet, IsMetBy}
use Rattle.sig_policy.specs.Requests.{leaf_holds, request_holds}
use Rattle.sig_policy.specs.Single.{extension_text, is_asked_text}
use Rattle.sig_policy.specs.declared.request.LeafPolicy.{LeafPolicy}
use Rattle.sig_policy.specs.declared.request.LeafPolicy.TheVariants as rule
use Rattle.sig_policy.specs.declared.request.RequestPolicy.{RequestPolicy}
use Rattle.sig_policy.specs.declared.request.RequestPolicy.TheVariants as policy
use Rattle.sig_policy.proofs.NamedLaws.{identity_named}
use Rattle.sig_policy.proofs.SingleLaws.{text_takes, text_again, holds_from, holds_is}

asks : (oid : List ℕ) (c : Cert) (asked : List ℕ)
    → (is_asked_text asked (extension_text oid c) ≡ true) ↔ HasText oid c asked
asks oid c asked = (
  (λ e. text_takes oid c asked (holds_from oid asked (extension_text oid c) e)),
  (λ has. holds_is oid asked (extension_text oid c) (text_again oid c asked has)),
)

pub rule_is_met : (r : LeafPolicy) (c : Cert) → (leaf_holds r c ≡ true) ↔ IsMet c r
rule_is_met (rule.OIDCIssuer p) c = asks (fulcio 1) c p.0
rule_is_met (rule.GitHubWorkflowTrigger p) c = asks (fulcio 2) c p.0
rule_is_met (rule.GitHubWorkflowSHA p) c = asks (fulcio 3) c p.0
rule_is_met (rule.GitHubWorkflowName p) c = asks (fulcio 4) c p.0
rule_is_met (rule.GitHubWorkflowRepository p) c = asks (fulcio 5) c p.0
rule_is_met (rule.GitHubWorkflowRef p) c = asks (fulcio 6) c p.0
rule_is_met (rule.Identity p) c = identity_named p c

module _ (c : Cert) where
  abbrev holds : LeafPolicy → Bool
  holds r = leaf_holds r c

  all_met : (rs : List LeafPolicy) → (list_all holds rs ≡ true) ↔ All (IsMet c) rs
  all_met rs = (
    (λ e k d below. (rule_is_met _ c).0 (AllPass-from_list_all holds rs e k d below)),
    (λ met. list_all-from_AllPass holds rs (λ k d below. (rule_is_met _ c).1 (met k d below))),
  )

  any_met : (rs : List LeafPolicy) → (list_any holds rs ≡ true) ↔ Any (IsMet c) rs
  any_met rs = (
    (λ e. let found = Any-from_list_any holds rs e in
        (found.0, found.1, found.2, found.3, (rule_is_met found.1 c).0 found.4)),
    (λ found. list_any-from_Any holds rs
        (found.0, found.1, found.2, found.3, (rule_is_met found.1 c).1 found.4)),
  )

pub policy_is_met : (p : RequestPolicy) (c : Cert) → (request_holds p c ≡ true) ↔ IsMetBy p c
policy_is_met (policy.All rs) c = all_met c rs
policy_is_met (policy.Any rs) c = any_met c rs
