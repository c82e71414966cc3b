-- *Body of one signature*: the body of a log's entry about an envelope of one signature: Rekor's entry of kind `dsse`,
-- version 0.0.1, which here has exactly one signature, and hashes in lower-case hexadecimal.
use Rattle.std.specs.Prelude.{⊤, ℕ, List, [], ◌∷◌, codes, Bool, true, false, bytes_eq, ◌&&◌, Option}
use Rattle.std.specs.Prelude.{Some, None, Result, Ok, Err}
use Rattle.hex.specs.Hex.{encode_lower}
use Rattle.sig_base.specs.OptionSteps.{◌>>=◌}
use Rattle.sig_base.specs.Sha256.{sha256}
use Rattle.sig_base.specs.declared.error.SigstoreError.{SigstoreError}
use Rattle.sig_base.specs.declared.error.SigstoreError.TheVariants.{UnexpectedError}
use Rattle.sig_base.specs.declared.unexpected.UnexpectedKind.TheVariants.{Body}
use Rattle.sig_certificate.specs.Pem.{pem_of}
use Rattle.sig_checked_bundle.specs.DsseBody.{dsse_body_of}
use Rattle.sig_dsse.specs.EnvelopeText.{envelope_text}
use Rattle.sig_dsse.specs.declared.envelope.DsseEnvelope.{DsseEnvelope}
use Rattle.sig_dsse.specs.declared.envelope.DsseSignature.{DsseSignature}
use Rattle.sig_json.specs.Data.{Data}
use Rattle.sig_json.specs.List.{list_of}
use Rattle.sig_json.specs.Member.{required, required_text}
use Rattle.sig_json.specs.Record.{record_in}
use Rattle.sig_json.specs.declared.error.JsonError.{JsonError}
use Rattle.sig_attestation.specs.declared.body.Spelled.{Spelled}

-- ---- what is required beyond `sig_checked_bundle`'s reading: the texts of the hashes, and one signature

abbrev pub hash_text_of : Data → Option (List ℕ)
hash_text_of d = required_text (codes "value") d

-- one element, which may be anything
abbrev pub only_of : List Data → Option ⊤
only_of [] = None
only_of (only ∷ []) = Some tt
only_of (first ∷ second ∷ others) = None

unfoldable pub one_of : Data → Option ⊤
one_of d = list_of d >>= only_of

unfoldable pub spelled_in : Data → Option Spelled
spelled_in d = do
  envelope ← required hash_text_of (codes "envelopeHash") d
  payload ← required hash_text_of (codes "payloadHash") d
  _ ← required one_of (codes "signatures") d
  Some (record { envelope = envelope; payload = payload })

abbrev pub spelled_of : Data → Option Spelled
spelled_of d = required spelled_in (codes "spec") d

-- ---- by computation

-- the text is the SHA-256 of the bytes in lower-case hexadecimal
abbrev pub is_lower_hash : List ℕ → List ℕ → Bool
is_lower_hash text bytes = bytes_eq text (encode_lower (sha256 bytes))

abbrev pub are_lower : List ℕ → List ℕ → Spelled → Bool
are_lower envelope payload spelled = is_lower_hash spelled.envelope envelope && is_lower_hash spelled.payload payload

abbrev pub is_spelled : List ℕ → List ℕ → Result Spelled JsonError → Bool
is_spelled envelope payload (Ok spelled) = are_lower envelope payload spelled
is_spelled envelope payload (Err e) = false

-- a hash by this algorithm of this value is the SHA-256 of the bytes
abbrev pub is_hash_of : List ℕ → List ℕ → List ℕ → Bool
is_hash_of bytes algorithm value = bytes_eq algorithm (codes "sha256") && bytes_eq value (sha256 bytes)

abbrev pub is_signature_of : List ℕ → List ℕ → List ℕ → List ℕ → Bool
is_signature_of signature pem said verifier = bytes_eq said signature && bytes_eq verifier pem

-- what a reader reads
abbrev pub ReadBy : {A : Type 0} → (Data → Option A) → Type 0
ReadBy {A} reader = A

abbrev pub says_of : List ℕ → List ℕ → List ℕ → List ℕ → ReadBy dsse_body_of → Bool
says_of envelope payload signature pem body =
    bytes_eq body.kind (codes "dsse") && (bytes_eq body.api_version (codes "0.0.1")
    && (is_hash_of envelope body.spec.envelope_hash.algorithm body.spec.envelope_hash.value
    && (is_hash_of payload body.spec.payload_hash.algorithm body.spec.payload_hash.value
    && is_signature_of signature pem body.spec.signature.signature body.spec.signature.verifier)))

-- what is read is about an envelope of this text and payload, with this signature, which the certificate of this DER
-- verifies
abbrev pub is_about : List ℕ → List ℕ → List ℕ → List ℕ → Result (ReadBy dsse_body_of) JsonError → Bool
is_about envelope payload signature certificate (Ok body) =
    says_of envelope payload signature (pem_of certificate) body
is_about envelope payload signature certificate (Err e) = false

unfoldable pub is_logged_once : List ℕ → List ℕ → List ℕ → List ℕ → List ℕ → Bool
is_logged_once envelope payload signature certificate body =
    is_about envelope payload signature certificate (record_in dsse_body_of body)
    && is_spelled envelope payload (record_in spelled_of body)

abbrev pub if_logged : Bool → Result (Unit {0}) SigstoreError
if_logged true = Ok tt
if_logged false = Err (UnexpectedError Body)

abbrev pub body_answer : DsseEnvelope → DsseSignature → List ℕ → List ℕ → Result (Unit {0}) SigstoreError
body_answer envelope signature certificate body =
    if_logged (is_logged_once (envelope_text envelope) envelope.payload signature.sig certificate body)
