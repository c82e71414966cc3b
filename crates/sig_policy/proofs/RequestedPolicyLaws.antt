-- The policies of a request, by what a certificate says.
use Rattle.std.proofs.Common.{◌≡◌, List, Result, subst}
use Rattle.std.specs.List.{list_all}
use Rattle.sig_certificate.specs.Certificate.{Cert}
use Rattle.sig_policy.specs.Said.{Values, extension_values_of}
use Rattle.sig_policy.specs.Requests.{holds_by, refusal_by, all_refusal, request_holds, request_refusal}
use Rattle.sig_policy.specs.Verdict.{IsPolicyResult}
use Rattle.sig_policy.specs.declared.failure.PolicyError.{PolicyError}
use Rattle.sig_policy.specs.declared.request.LeafPolicy.{LeafPolicy}
use Rattle.sig_policy.specs.declared.request.RequestPolicy.{RequestPolicy}
use Rattle.sig_policy.specs.declared.request.RequestPolicy.TheVariants.{All}

-- the verdict by a certificate's values is that of the certificate
pub all_said : (request : RequestPolicy) (policies items : List LeafPolicy) (v : Values) (c : Cert)
    (r : Result (Unit {0}) PolicyError) → request ≡ All policies → items ≡ policies → v ≡ extension_values_of c
    → IsPolicyResult (list_all (λ p. holds_by p v) items)
    (all_refusal (λ p. holds_by p v) (λ p. refusal_by p v) items) r
    → IsPolicyResult (request_holds request c) (request_refusal request c) r
all_said request policies items v c r is same said verdict =
    rw (is, ← same)
    (subst (λ (w : Values). IsPolicyResult (list_all (λ p. holds_by p w) items)
    (all_refusal (λ p. holds_by p w) (λ p. refusal_by p w) items) r) said verdict)
