-- *Rekor bundle*: what Rekor promised of a signature, as `cosign` stores it (Rekor's signed entry timestamp), and
-- whether the log of its id signed it.
use Rattle.std.specs.Prelude.{ℕ, List, codes, Bool, Option, Some, None, Result, Ok, Err}
use Rattle.sig_base.specs.ResultSteps.{◌>>=◌}
use Rattle.sig_base.specs.ByText.{text_lookup}
use Rattle.sig_base.specs.declared.error.SigstoreError.{SigstoreError}
use Rattle.sig_base.specs.declared.error.SigstoreError.TheVariants as sigstore
use Rattle.sig_base.specs.declared.scheme.VerifyScheme.{VerifyScheme}
use Rattle.sig_base.specs.declared.unexpected.UnexpectedKind.TheVariants.{BundleUnreadable, PromiseInteger}
use Rattle.sig_json_text.specs.Canonical.{canonical_of}
use Rattle.sig_json.specs.Data.{Data, string, number, object, member, no_members}
use Rattle.sig_json.specs.Find.{of_integer}
use Rattle.sig_json.specs.Record.{record_in}
use Rattle.sig_json_text.specs.declared.error.CanonicalError.{CanonicalError}
use Rattle.sig_json_text.specs.declared.error.CanonicalError.TheVariants as canonical
use Rattle.sig_json.specs.declared.error.JsonError.{JsonError}
use Rattle.sig_key.specs.Key.{check_answer, key_accepts}
use Rattle.sig_key.specs.Signature.{text_bytes}
use Rattle.sig_key.specs.declared.verification_key.CosignVerificationKey.{CosignVerificationKey}
use Rattle.sig_payload.specs.BundleRecord.{artifact_bundle_in, bundle_in}
use Rattle.sig_payload.specs.declared.bundle.Bundle.{Bundle}
use Rattle.sig_payload.specs.declared.bundle.Payload.{Payload}
use Rattle.sig_payload.specs.declared.bundle.SignedArtifactBundle.{SignedArtifactBundle}

-- the messages and signatures that a checker accepts for a scheme and an SPKI
abbrev pub AcceptsSpki : Type 0
AcceptsSpki = VerifyScheme → List ℕ → List ℕ → List ℕ → Bool

-- keys by the ids of their logs
abbrev pub Keys : Type 0
Keys = List (List ℕ × CosignVerificationKey)

-- ---- reading

unfoldable pub bundle_of : List ℕ → Result Bundle JsonError
bundle_of raw = record_in bundle_in raw

unfoldable pub artifact_bundle_of : List ℕ → Result SignedArtifactBundle JsonError
artifact_bundle_of raw = record_in artifact_bundle_in raw

abbrev pub readable : {A : Type 0} → Result A JsonError → Result A SigstoreError
readable (Ok x) = Ok x
readable (Err why) = Err (sigstore.UnexpectedError BundleUnreadable)

-- ---- what the log signed

-- the object of the payload's four members
unfoldable pub payload_tree : Payload → Data
payload_tree payload =
    object (member (codes "body") (string payload.body)
    (member (codes "integratedTime") (number (of_integer payload.integrated_time))
    (member (codes "logID") (string payload.log_id)
    (member (codes "logIndex") (number (of_integer payload.log_index)) no_members))))

abbrev pub of_canonical : CanonicalError → SigstoreError
of_canonical canonical.IntegerTooLarge = sigstore.UnexpectedError PromiseInteger
of_canonical canonical.OutOfMemory = sigstore.OutOfMemory

abbrev pub from_canonical : Result (List ℕ) CanonicalError → Result (List ℕ) SigstoreError
from_canonical (Ok text) = Ok text
from_canonical (Err error) = Err (of_canonical error)

-- its canonical text (RFC 8785), or that one of its integers does not have one
abbrev pub payload_text : Payload → Result (List ℕ) SigstoreError
payload_text payload = from_canonical (canonical_of (payload_tree payload))

-- ---- its signer

abbrev pub found_key : List ℕ → Option CosignVerificationKey → Result CosignVerificationKey SigstoreError
found_key id None = Err (sigstore.RekorPublicKeyNotFoundError id)
found_key id (Some key) = Ok key

-- the key of the log of this id
abbrev pub key_named : Keys → List ℕ → Result CosignVerificationKey SigstoreError
key_named keys id = found_key id (text_lookup id keys)

-- the log of the payload's id signed it
abbrev pub promise_answer : AcceptsSpki → Keys → Bundle → Result (Unit {0}) SigstoreError
promise_answer spki keys bundle = do
  text ← payload_text bundle.payload
  key ← key_named keys bundle.payload.log_id
  check_answer (key_accepts spki key text) (text_bytes bundle.signed_entry_timestamp)

unfoldable pub bundle_answer : AcceptsSpki → Keys → List ℕ → Result Bundle SigstoreError
bundle_answer spki keys raw = do
  bundle ← readable (bundle_of raw)
  _ ← promise_answer spki keys bundle
  Ok bundle

unfoldable pub artifact_bundle_answer : AcceptsSpki → Keys → List ℕ → Result SignedArtifactBundle SigstoreError
artifact_bundle_answer spki keys raw = do
  artifact ← readable (artifact_bundle_of raw)
  _ ← promise_answer spki keys artifact.rekor_bundle
  Ok artifact
