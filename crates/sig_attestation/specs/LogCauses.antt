-- *Vouched entry*: what the log of a key has to say of an entry, and the first rule that it breaks (Rekor's signed
-- entry timestamp; the checkpoint format of transparency-dev; RFC 6962 section 2.1.1).
use Rattle.std.specs.Prelude.{◌≡◌, ◌⊎◌, ℕ, List, Some, None, true, Ok, Err}
use Rattle.sig_base.specs.declared.error.SigstoreError.{SigstoreError}
use Rattle.sig_bundle.specs.Promise.{promise_tree_of}
use Rattle.sig_bundle.specs.Proof.{IsProof, IsProofFault}
use Rattle.sig_bundle.specs.declared.material.ProofFields.{ProofFields}
use Rattle.sig_bundle.specs.declared.material.TransparencyLogEntry.{TransparencyLogEntry}
use Rattle.sig_bundle.specs.declared.proof_error.ProofFieldsError.{ProofFieldsError}
use Rattle.sig_json_text.specs.Canonical.{canonical_of}
use Rattle.sig_json_text.specs.declared.error.CanonicalError.TheVariants.{IntegerTooLarge}
use Rattle.sig_rekor.specs.Verify.{proof_answer}
use Rattle.sig_rekor.specs.declared.inclusion_proof.InclusionProof.{InclusionProof}
use Rattle.sig_verify.specs.ContentCheck.{AcceptsUnder}
use Rattle.sig_verify.specs.EntryLinks.{OfProof}
use Rattle.sig_verify.specs.OfflineErrors.{of_fields, of_proof}
use Rattle.sig_verify.specs.declared.offline_error.OfflineError.{OfflineError}
use Rattle.sig_verify.specs.declared.offline_error.OfflineError.TheVariants as error

-- there is a promise, and this holds of it
abbrev pub OfPromise : TransparencyLogEntry → (List ℕ → Type 0) → Type 0
OfPromise t P = (promise : List ℕ) × (t.inclusion_promise ≡ Some promise) × P promise

-- the promise has a canonical JSON (RFC 8785), and this holds of it
abbrev pub OfText : TransparencyLogEntry → (List ℕ → Type 0) → Type 0
OfText t P = (text : List ℕ) × (canonical_of (promise_tree_of t) ≡ Ok text) × P text

-- the promise is a signature over its text
abbrev pub IsPromised : AcceptsUnder → TransparencyLogEntry → Type 0
IsPromised accepts t = OfPromise t (λ promise. OfText t (λ text. accepts text promise ≡ true))

-- the members are a proof, and this holds of it
abbrev pub OfRead : ProofFields → (InclusionProof → Type 0) → Type 0
OfRead p P = (proof : InclusionProof) × IsProof p proof × P proof

-- the entry has a proof, and the key signed its checkpoint, which is of the proof's tree, and the audit path leads from
-- the body to its root
abbrev pub IsProved : AcceptsUnder → TransparencyLogEntry → Type 0
IsProved accepts t =
    OfProof t (λ p. OfRead p (λ proof. proof_answer accepts t.canonicalized_body proof ≡ Ok tt))

-- the log of the key promised to include the entry, and proves it
abbrev pub IsVouched : AcceptsUnder → TransparencyLogEntry → Type 0
IsVouched accepts t = IsPromised accepts t × IsProved accepts t

-- ---- the first rule that does not hold

-- the promise is there, its integers are within plus or minus 2^53 - 1, it is signed
abbrev pub IsPromiseFault : AcceptsUnder → TransparencyLogEntry → OfflineError → Type 0
IsPromiseFault accepts t why =
    ((why ≡ error.PromiseMissing) × (t.inclusion_promise ≡ None))
    ⊎ OfPromise t (λ promise.
    ((why ≡ error.PromiseInteger) × (canonical_of (promise_tree_of t) ≡ Err IntegerTooLarge))
    ⊎ OfText t (λ text. (why ≡ error.Promise) × ¬ (accepts text promise ≡ true)))

-- the proof is there, its members are a proof, and it is accepted, as `InclusionProof::verify` says
abbrev pub IsInclusionFault : AcceptsUnder → TransparencyLogEntry → OfflineError → Type 0
IsInclusionFault accepts t why =
    ((why ≡ error.ProofMissing) × (t.inclusion_proof ≡ None))
    ⊎ OfProof t (λ p.
    ((f : ProofFieldsError) × (why ≡ of_fields f) × IsProofFault p f)
    ⊎ OfRead p (λ proof. (x : SigstoreError) × (why ≡ of_proof x)
    × (proof_answer accepts t.canonicalized_body proof ≡ Err x)))

abbrev pub IsLogFault : AcceptsUnder → TransparencyLogEntry → OfflineError → Type 0
IsLogFault accepts t why = IsPromiseFault accepts t why ⊎ (IsPromised accepts t × IsInclusionFault accepts t why)
