-- The links `log-key` to `inclusion` of a log's entry, as one result: the first of them that fails, or the entry's
-- body with its proof (Rekor's signed entry timestamp; RFC 6962 section 2.1.1).
use Rattle.std.specs.Prelude.{ℕ, Bool, true, false, List, Option, Some, None, Result, Ok, Err}
use Rattle.std.specs.Borrow.{Bor}
use Rattle.hex.specs.Hex.{encode_lower}
use Rattle.sig_base.specs.ByText.{text_lookup}
use Rattle.sig_base.specs.ResultSteps.{◌>>=◌}
use Rattle.sig_base.specs.declared.error.SigstoreError.{SigstoreError}
use Rattle.sig_base.specs.declared.error.SigstoreError.TheVariants as sigstore
use Rattle.sig_base.specs.declared.scheme.VerifyScheme.{VerifyScheme}
use Rattle.sig_bundle.specs.Promise.{promise_tree_of}
use Rattle.sig_bundle.specs.Proof.{proof_or_fault}
use Rattle.sig_bundle.specs.declared.material.ProofFields.{ProofFields}
use Rattle.sig_bundle.specs.declared.material.TransparencyLogEntry.{TransparencyLogEntry}
use Rattle.sig_bundle.specs.declared.proof_error.ProofFieldsError.{ProofFieldsError}
use Rattle.sig_json_text.specs.Canonical.{canonical_of}
use Rattle.sig_json_text.specs.declared.error.CanonicalError.{CanonicalError}
use Rattle.sig_key.specs.Kind.{key_kind, kind_answer}
use Rattle.sig_rekor.specs.Verify.{inclusion_at, signed_answer, tree_answer}
use Rattle.sig_rekor.specs.declared.checkpoint.SignedCheckpoint.{SignedCheckpoint}
use Rattle.sig_rekor.specs.declared.inclusion_proof.InclusionProof.{InclusionProof}
use Rattle.sig_verify.specs.ContentCheck.{AcceptsSpki, AcceptsUnder}
use Rattle.sig_verify.specs.OfflineErrors.{of_canonical, of_fields, of_proof}
use Rattle.sig_verify.specs.declared.logged_entry.LoggedEntry.{LoggedEntry}
use Rattle.sig_verify.specs.declared.offline_error.OfflineError.{OfflineError}
use Rattle.sig_verify.specs.declared.offline_error.OfflineError.TheVariants.{LogIdMissing, RekorPublicKeyNotFoundError}
use Rattle.sig_verify.specs.declared.offline_error.OfflineError.TheVariants.{KeyParsingError}
use Rattle.sig_verify.specs.declared.offline_error.OfflineError.TheVariants.{PublicKeyUnsupportedAlgorithmError}
use Rattle.sig_verify.specs.declared.offline_error.OfflineError.TheVariants.{PromiseMissing, Promise, ProofMissing}
use Rattle.sig_verify.specs.declared.offline_error.OfflineError.TheVariants.{CheckpointMissing}

-- ---- the key of the log

abbrev pub id_answer : Option (List ℕ) → Result (List ℕ) OfflineError
id_answer None = Err LogIdMissing
id_answer (Some id) = Ok id

abbrev pub borrowed_id : Result (Bor (List ℕ)) OfflineError → Result (List ℕ) OfflineError
borrowed_id (Ok id) = Ok id.now
borrowed_id (Err error) = Err error

abbrev pub of_kind : SigstoreError → OfflineError
of_kind sigstore.KeyParsingError = KeyParsingError
of_kind other = PublicKeyUnsupportedAlgorithmError

abbrev pub from_kind : Result (VerifyScheme × List ℕ) SigstoreError → Result (VerifyScheme × List ℕ) OfflineError
from_kind (Ok key) = Ok key
from_kind (Err error) = Err (of_kind error)

-- the scheme of the key that these bytes are, with the bytes
abbrev pub read_key : List ℕ → Result (VerifyScheme × List ℕ) OfflineError
read_key der = from_kind (kind_answer der (key_kind der))

abbrev pub read_found : List ℕ → Option (List ℕ) → Result (VerifyScheme × List ℕ) OfflineError
read_found name None = Err (RekorPublicKeyNotFoundError name)
read_found name (Some der) = read_key der

-- the key of the log id, which the map has in lower-case hexadecimal
abbrev pub log_key_named : List (List ℕ × List ℕ) → List ℕ → Result (VerifyScheme × List ℕ) OfflineError
log_key_named keys id = read_found (encode_lower id) (text_lookup (encode_lower id) keys)

abbrev pub log_key_answer : List (List ℕ × List ℕ) → Option (List ℕ) → Result (VerifyScheme × List ℕ) OfflineError
log_key_answer keys id = id_answer id >>= log_key_named keys

-- ---- the promise

abbrev pub from_canonical : Result (List ℕ) CanonicalError → Result (List ℕ) OfflineError
from_canonical (Ok text) = Ok text
from_canonical (Err error) = Err (of_canonical error)

abbrev pub if_promised : Bool → Result (Unit {0}) OfflineError
if_promised true = Ok tt
if_promised false = Err Promise

-- the promise is the key's signature over its text
abbrev pub promised : AcceptsUnder → TransparencyLogEntry → Option (List ℕ) → Result (Unit {0}) OfflineError
promised accepts entry None = Err PromiseMissing
promised accepts entry (Some promise) =
    from_canonical (canonical_of (promise_tree_of entry)) >>= λ text. if_promised (accepts text promise)

abbrev pub promise_answer : AcceptsUnder → TransparencyLogEntry → Result (Unit {0}) OfflineError
promise_answer accepts entry = promised accepts entry entry.inclusion_promise

-- ---- the proof

abbrev pub from_fields : Result InclusionProof ProofFieldsError → Result InclusionProof OfflineError
from_fields (Ok proof) = Ok proof
from_fields (Err error) = Err (of_fields error)

abbrev pub fields_answer : Option ProofFields → Result InclusionProof OfflineError
fields_answer None = Err ProofMissing
fields_answer (Some fields) = from_fields (proof_or_fault fields)

abbrev pub from_proof : Result (Unit {0}) SigstoreError → Result (Unit {0}) OfflineError
from_proof (Ok done) = Ok done
from_proof (Err error) = Err (of_proof error)

-- ---- the checkpoint and the audit path

-- the key signed the checkpoint
abbrev pub note_key_answer : AcceptsUnder → SignedCheckpoint → Result (Unit {0}) OfflineError
note_key_answer accepts checkpoint = from_proof (signed_answer accepts checkpoint)

-- which is of the proof's tree
abbrev pub note_match_answer : SignedCheckpoint → InclusionProof → Result (Unit {0}) OfflineError
note_match_answer checkpoint proof = from_proof (tree_answer checkpoint proof.root_hash proof.tree_size)

-- and the path leads from the body to its root
abbrev pub audit_path_answer : List ℕ → InclusionProof → Result (Unit {0}) OfflineError
audit_path_answer body proof = from_proof (inclusion_at proof.log_index body proof)

-- ---- all of them in order

-- the body with this proof, if the key vouches for it by this checkpoint
abbrev pub included_by : AcceptsUnder → TransparencyLogEntry → InclusionProof → Option SignedCheckpoint
    → Result LoggedEntry OfflineError
included_by accepts entry proof None = Err CheckpointMissing
included_by accepts entry proof (Some checkpoint) = do
  _ ← note_key_answer accepts checkpoint
  _ ← note_match_answer checkpoint proof
  _ ← audit_path_answer entry.canonicalized_body proof
  Ok (record { body = entry.canonicalized_body; proof = proof })

abbrev pub included : AcceptsUnder → TransparencyLogEntry → InclusionProof → Result LoggedEntry OfflineError
included accepts entry proof = included_by accepts entry proof proof.checkpoint

abbrev pub vouched : AcceptsUnder → TransparencyLogEntry → Result LoggedEntry OfflineError
vouched accepts entry = do
  _ ← promise_answer accepts entry
  proof ← fields_answer entry.inclusion_proof
  included accepts entry proof

abbrev pub log_entry_answer : AcceptsSpki → List (List ℕ × List ℕ) → TransparencyLogEntry → Result LoggedEntry OfflineError
log_entry_answer spki keys entry = do
  key ← log_key_answer keys entry.log_id
  vouched (spki key.0 key.1) entry
