-- *Claims*: what Fulcio's extensions say of a signer: plain texts, not DER
-- (https://github.com/sigstore/fulcio/blob/main/docs/oid-info.md). Of several extensions of one object identifier the
-- first counts.
use Rattle.std.specs.Prelude.{ℕ, List, [], ◌∷◌, Option, Some, None, option_map, Result, Ok}
use Rattle.std.specs.Option.{ok_or}
use Rattle.sig_base.specs.ResultSteps.{◌>>=◌}
use Rattle.sig_base.specs.declared.error.SigstoreError.{SigstoreError}
use Rattle.sig_base.specs.declared.error.SigstoreError.TheVariants.{X509Error}
use Rattle.sig_certificate.specs.Certificate.{Extension, Cert}
use Rattle.sig_certificate.specs.Lookups.{with_oid}
use Rattle.sig_der.specs.ObjectIdentifiers.{fulcio}
use Rattle.sig_policy.specs.Texts.{utf8_text}
use Rattle.sig_signer.specs.declared.claims.Claims.{Claims}
use Rattle.sig_signer.specs.declared.claims.Workflow.{Workflow}

abbrev pub first_of : List Extension → Option Extension
first_of [] = None
first_of (e ∷ es) = Some e

-- the extension is absent, or its value is UTF-8
abbrev pub claim_of : Option Extension → Result (Option (List ℕ)) SigstoreError
claim_of None = Ok None
claim_of (Some e) = ok_or (option_map (λ t. Some t) (utf8_text e.value)) X509Error

abbrev pub claim_answer : List ℕ → Cert → Result (Option (List ℕ)) SigstoreError
claim_answer oid c = claim_of (first_of (with_oid oid c.extensions))

unfoldable pub workflow_answer : Cert → Result Workflow SigstoreError
workflow_answer c = do
  name ← claim_answer (fulcio 4) c
  repository ← claim_answer (fulcio 5) c
  reference ← claim_answer (fulcio 6) c
  Ok (record { name = name; repository = repository; reference = reference })

unfoldable pub claims_answer : Cert → Result Claims SigstoreError
claims_answer c = do
  issuer ← claim_answer (fulcio 1) c
  trigger ← claim_answer (fulcio 2) c
  sha ← claim_answer (fulcio 3) c
  workflow ← workflow_answer c
  Ok (record { issuer = issuer; trigger = trigger; sha = sha; workflow = workflow })
