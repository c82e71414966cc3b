-- Which errors an entry has that a log does not vouch for.
use Rattle.std.proofs.Common.{◌≡◌, ℕ, List, Bool, true, false, Option, Some, None, Result, Ok, Err, inl, inr}
use Rattle.std.proofs.Common.{sym, subst, ◌∙◌}
use Rattle.sig_base.proofs.ResultSteps.{bind_err, err_is}
use Rattle.sig_base.specs.Answers.{OrMemory}
use Rattle.sig_base.specs.declared.error.SigstoreError.{SigstoreError}
use Rattle.sig_base.specs.declared.error.SigstoreError.TheVariants as sigstore
use Rattle.sig_bundle.specs.Promise.{promise_tree_of}
use Rattle.sig_bundle.specs.Proof.{proof_or_fault}
use Rattle.sig_bundle.specs.declared.material.ProofFields.{ProofFields}
use Rattle.sig_bundle.specs.declared.material.TransparencyLogEntry.{TransparencyLogEntry}
use Rattle.sig_bundle.specs.declared.proof_error.ProofFieldsError.{ProofFieldsError}
use Rattle.sig_bundle.specs.declared.proof_error.ProofFieldsError.TheVariants as fault
use Rattle.sig_json_text.specs.Canonical.{canonical_of}
use Rattle.sig_json_text.specs.declared.error.CanonicalError.{CanonicalError}
use Rattle.sig_json_text.specs.declared.error.CanonicalError.TheVariants as canonical
use Rattle.sig_rekor.specs.Verify.{proof_answer}
use Rattle.sig_rekor.specs.declared.inclusion_proof.InclusionProof.{InclusionProof}
use Rattle.sig_verify.proofs.EntrySteps.{included_is, logged}
use Rattle.sig_verify.specs.ContentCheck.{AcceptsUnder}
use Rattle.sig_verify.specs.LogEntry.{fields_answer, from_canonical, from_fields, from_proof}
use Rattle.sig_verify.specs.LogEntry.{if_promised, included, promise_answer, promised, vouched}
use Rattle.sig_verify.specs.OfflineErrors.{of_canonical, of_fields, of_proof}
use Rattle.sig_verify.specs.declared.offline_error.OfflineError.{OfflineError}
use Rattle.sig_verify.specs.declared.offline_error.OfflineError.TheVariants as error
use Rattle.sig_attestation.specs.Vouching.{IsLogRefusal}

-- an error that is named is one of them
named : (x e : OfflineError) → ◌≡◌ {A = Result (Unit {0}) OfflineError} (Err x) (Err e) → IsLogRefusal x → IsLogRefusal e
named x e told is = subst IsLogRefusal (err_is x e told) is

of_text : (d : CanonicalError) → IsLogRefusal (of_canonical d)
of_text canonical.IntegerTooLarge = tt
of_text canonical.OutOfMemory = tt

of_members : (f : ProofFieldsError) → IsLogRefusal (of_fields f)
of_members fault.RootLength = tt
of_members (fault.HashLength index) = tt
of_members fault.TreeSize = tt
of_members fault.CheckpointMissing = tt
of_members (fault.Checkpoint f) = tt
of_members fault.OutOfMemory = tt

of_check : (x : SigstoreError) → IsLogRefusal (of_proof x)
of_check (sigstore.UnexpectedError k) = tt
of_check sigstore.CheckpointSignatureVerificationError = tt
of_check (sigstore.ConsistencyProofError why) = tt
of_check (sigstore.InclusionProofError why) = tt
of_check other = tt

text_refusal : (r : Result (List ℕ) CanonicalError) (e : OfflineError) → from_canonical r ≡ Err e → IsLogRefusal e
text_refusal (Ok text) e told = absurd cc
text_refusal (Err d) e told = subst IsLogRefusal (err_is (of_canonical d) e told) (of_text d)

signed_refusal : (b : Bool) (e : OfflineError) → if_promised b ≡ Err e → IsLogRefusal e
signed_refusal true e told = absurd cc
signed_refusal false e told = named error.Promise e told tt

promise_refusal : (accepts : AcceptsUnder) (t : TransparencyLogEntry) (o : Option (List ℕ)) (e : OfflineError)
    → promised accepts t o ≡ Err e → IsLogRefusal e
promise_refusal accepts t None e told = named error.PromiseMissing e told tt
promise_refusal accepts t (Some promise) e told =
    elim (bind_err (from_canonical (canonical_of (promise_tree_of t))) _ e told) [
      | inl wide ↦ text_refusal (canonical_of (promise_tree_of t)) e wide
      | inr text ↦ signed_refusal (accepts text.0 promise) e text.2
    ]

members_refusal : (r : Result InclusionProof ProofFieldsError) (e : OfflineError) → from_fields r ≡ Err e
    → IsLogRefusal e
members_refusal (Ok proof) e told = absurd cc
members_refusal (Err f) e told = subst IsLogRefusal (err_is (of_fields f) e told) (of_members f)

proof_refusal : (o : Option ProofFields) (e : OfflineError) → fields_answer o ≡ Err e → IsLogRefusal e
proof_refusal None e told = subst IsLogRefusal (err_is error.ProofMissing e told) tt
proof_refusal (Some p) e told = members_refusal (proof_or_fault p) e told

check_refusal : (r : Result (Unit {0}) SigstoreError) (e : OfflineError) → from_proof r ≡ Err e → IsLogRefusal e
check_refusal (Ok done) e told = absurd cc
check_refusal (Err x) e told = named (of_proof x) e told (of_check x)

included_refusal : (accepts : AcceptsUnder) (t : TransparencyLogEntry) (proof : InclusionProof) (e : OfflineError)
    → included accepts t proof ≡ Err e → IsLogRefusal e
included_refusal accepts t proof e told =
    elim (bind_err (from_proof (proof_answer accepts t.canonicalized_body proof))
    (λ (done : Unit {0}). Ok (logged t proof)) e
    (sym (included_is accepts t proof) ∙ told)) [
      | inl refused ↦ check_refusal (proof_answer accepts t.canonicalized_body proof) e refused
      | inr done ↦ absurd (let wrong = done.2 in cc)
    ]

vouched_refusal : (accepts : AcceptsUnder) (t : TransparencyLogEntry) (e : OfflineError) → vouched accepts t ≡ Err e
    → IsLogRefusal e
vouched_refusal accepts t e told =
    elim (bind_err (promise_answer accepts t) _ e told) [
      | inl refused ↦ promise_refusal accepts t t.inclusion_promise e refused
      | inr done ↦ elim (bind_err (fields_answer t.inclusion_proof) _ e done.2) [
        | inl faulty ↦ proof_refusal t.inclusion_proof e faulty
        | inr read ↦ included_refusal accepts t read.0 e read.2
      ]
    ]

pub is_log_refusal : (accepts : AcceptsUnder) (t : TransparencyLogEntry) (e : OfflineError)
    → OrMemory error.OutOfMemory e (vouched accepts t ≡ Err e) → IsLogRefusal e
is_log_refusal accepts t e (inl memory) = subst IsLogRefusal (sym memory) tt
is_log_refusal accepts t e (inr told) = vouched_refusal accepts t e told
