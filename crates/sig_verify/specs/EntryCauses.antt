-- *Causes of an entry's refusals*: each error of a log's entry in the words of the entry: the links and rules before it
-- hold, and this one does not.
use Rattle.std.specs.Prelude.{◌≡◌, ◌↔◌, ℕ, List, Some, None, IsSome, Err}
use Rattle.hex.specs.Hex.{encode_lower}
use Rattle.sig_base.specs.ByText.{text_lookup}
use Rattle.sig_base.specs.declared.error.SigstoreError.{SigstoreError}
use Rattle.sig_base.specs.declared.error.SigstoreError.TheVariants as sigstore
use Rattle.sig_bundle.specs.Promise.{IsExactEntry}
use Rattle.sig_bundle.specs.Proof.{IsProof, IsProofFault}
use Rattle.sig_bundle.specs.declared.material.TransparencyLogEntry.{TransparencyLogEntry}
use Rattle.sig_bundle.specs.declared.proof_error.ProofFieldsError.{ProofFieldsError}
use Rattle.sig_bundle.specs.declared.proof_error.ProofFieldsError.TheVariants as fault
use Rattle.sig_key.specs.Kind.{IsKind}
use Rattle.sig_key.specs.declared.kind.KeyKind.TheVariants.{NoKeyInfo, Unsupported}
use Rattle.sig_rekor.specs.Verify.{proof_answer}
use Rattle.sig_rekor.specs.declared.inclusion_proof.InclusionProof.{InclusionProof}
use Rattle.sig_verify.specs.ContentCheck.{AcceptsSpki}
use Rattle.sig_verify.specs.EntryLinks.{HasCanonicalPromise, IsOfBytes, IsPromisedBy, LogKeys, OfLogKey, OfProof}
use Rattle.sig_verify.specs.LogEntry.{log_entry_answer}
use Rattle.sig_verify.specs.declared.offline_error.OfflineError.{OfflineError}
use Rattle.sig_verify.specs.declared.offline_error.OfflineError.TheVariants as error

-- ---- the parts that a rule may be about

-- the entry names a log, there is a key of its id, and this holds of the key
abbrev pub OfFoundKey : LogKeys → TransparencyLogEntry → (List ℕ → Type 0) → Type 0
OfFoundKey keys e P =
    (id : List ℕ) × (e.log_id ≡ Some id) × (der : List ℕ) × (text_lookup (encode_lower id) keys ≡ Some der) × P der

-- the entry's log has a key
abbrev pub HasKey : LogKeys → TransparencyLogEntry → Type 0
HasKey keys e = OfLogKey keys e (λ key. Unit {0})

-- which signed the entry's promise
pub record IsPromisedEntry (spki : AcceptsSpki) (keys : LogKeys) (e : TransparencyLogEntry) : Type 0 where
  pub key : HasKey keys e
  pub canonical : HasCanonicalPromise e
  pub signed : IsPromisedBy spki keys e

-- the members of the entry's proof have this fault
abbrev pub HasFault : AcceptsSpki → LogKeys → TransparencyLogEntry → ProofFieldsError → Type 0
HasFault spki keys e f = IsPromisedEntry spki keys e × OfProof e (λ p. IsProofFault p f)

-- they are a proof, which the key of the entry's log refuses with this error, as `InclusionProof::verify` says
abbrev pub HasRefusal : AcceptsSpki → LogKeys → TransparencyLogEntry → SigstoreError → Type 0
HasRefusal spki keys e why = IsPromisedEntry spki keys e × OfLogKey keys e (λ key. OfProof e (λ p.
    (proof : InclusionProof) × IsProof p proof × (proof_answer (spki key.0 key.1) e.canonicalized_body proof ≡ Err why)))

-- ---- each error, by the first rule that does not hold

abbrev pub IsEntryCause : AcceptsSpki → LogKeys → TransparencyLogEntry → OfflineError → Type 0
IsEntryCause spki keys e error.LogIdMissing = e.log_id ≡ None
IsEntryCause spki keys e (error.RekorPublicKeyNotFoundError name) =
    (id : List ℕ) × (e.log_id ≡ Some id) × (name ≡ encode_lower id) × (text_lookup name keys ≡ None)
IsEntryCause spki keys e error.KeyParsingError = OfFoundKey keys e (λ der. IsKind der NoKeyInfo)
IsEntryCause spki keys e error.PublicKeyUnsupportedAlgorithmError = OfFoundKey keys e (λ der. IsKind der Unsupported)
IsEntryCause spki keys e error.PromiseMissing = HasKey keys e × (e.inclusion_promise ≡ None)
IsEntryCause spki keys e error.PromiseInteger = HasKey keys e × IsSome e.inclusion_promise × ¬ IsExactEntry e
IsEntryCause spki keys e error.Promise = HasKey keys e × HasCanonicalPromise e × ¬ IsPromisedBy spki keys e
IsEntryCause spki keys e error.ProofMissing = IsPromisedEntry spki keys e × (e.inclusion_proof ≡ None)
IsEntryCause spki keys e error.RootLength = HasFault spki keys e fault.RootLength
IsEntryCause spki keys e (error.HashLength index) = HasFault spki keys e (fault.HashLength index)
IsEntryCause spki keys e error.TreeSize = HasFault spki keys e fault.TreeSize
IsEntryCause spki keys e error.CheckpointMissing = HasFault spki keys e fault.CheckpointMissing
IsEntryCause spki keys e (error.ParseCheckpointError f) = HasFault spki keys e (fault.Checkpoint f)
IsEntryCause spki keys e error.CheckpointSignatureVerificationError =
    HasRefusal spki keys e sigstore.CheckpointSignatureVerificationError
IsEntryCause spki keys e (error.ConsistencyProofError why) = HasRefusal spki keys e (sigstore.ConsistencyProofError why)
IsEntryCause spki keys e (error.InclusionProofError why) = HasRefusal spki keys e (sigstore.InclusionProofError why)
IsEntryCause spki keys e other = ⊥

-- each error comes if and only if it has its cause
abbrev pub EntryErrorsHaveTheirCause : Type 0
EntryErrorsHaveTheirCause = (spki : AcceptsSpki) (keys : LogKeys) (e : TransparencyLogEntry) → IsOfBytes keys e
    → (why : OfflineError) → (log_entry_answer spki keys e ≡ Err why) ↔ IsEntryCause spki keys e why
