-- The links `note-key`, `note-match` and `inclusion` one after another are the check of the proof with its checkpoint.
use Rattle.std.proofs.Common.{◌≡◌, Option, Some, None, Result, Ok, Err, refl}
use Rattle.sig_base.specs.ResultSteps.{◌>>=◌}
use Rattle.sig_base.specs.declared.error.SigstoreError.{SigstoreError}
use Rattle.sig_bundle.specs.declared.material.TransparencyLogEntry.{TransparencyLogEntry}
use Rattle.sig_rekor.specs.Verify.{and_then, checkpoint_answer, inclusion_at, proof_answer, signed_answer, tree_answer}
use Rattle.sig_rekor.specs.declared.checkpoint.SignedCheckpoint.{SignedCheckpoint}
use Rattle.sig_rekor.specs.declared.inclusion_proof.InclusionProof.{InclusionProof}
use Rattle.sig_verify.specs.ContentCheck.{AcceptsUnder}
use Rattle.sig_verify.specs.LogEntry.{from_proof, included, included_by}
use Rattle.sig_verify.specs.declared.logged_entry.LoggedEntry.{LoggedEntry}
use Rattle.sig_verify.specs.declared.offline_error.OfflineError.{OfflineError}

-- what is returned
abbrev pub logged : TransparencyLogEntry → InclusionProof → LoggedEntry
logged e proof = record { body = e.canonicalized_body; proof = proof }

three_steps : (s t i : Result (Unit {0}) SigstoreError) (r : Result LoggedEntry OfflineError)
    → (from_proof s >>= λ signed. from_proof t >>= λ matched. from_proof i >>= λ led. r)
    ≡ (from_proof (and_then (and_then s t) i) >>= λ done. r)
three_steps (Err error) t i r = refl
three_steps (Ok _) (Err error) i r = refl
three_steps (Ok _) (Ok _) (Err error) r = refl
three_steps (Ok _) (Ok _) (Ok _) r = refl

by_checkpoint : (accepts : AcceptsUnder) (e : TransparencyLogEntry) (proof : InclusionProof) (o : Option SignedCheckpoint)
    → included_by accepts e proof o
    ≡ (from_proof (and_then (checkpoint_answer accepts proof o)
    (inclusion_at proof.log_index e.canonicalized_body proof)) >>= λ done. Ok (logged e proof))
by_checkpoint accepts e proof None = refl
by_checkpoint accepts e proof (Some checkpoint) =
    three_steps (signed_answer accepts checkpoint) (tree_answer checkpoint proof.root_hash proof.tree_size)
    (inclusion_at proof.log_index e.canonicalized_body proof) (Ok (logged e proof))

pub included_is : (accepts : AcceptsUnder) (e : TransparencyLogEntry) (proof : InclusionProof)
    → included accepts e proof
    ≡ (from_proof (proof_answer accepts e.canonicalized_body proof) >>= λ done. Ok (logged e proof))
unfolding proof_answer
included_is accepts e proof = by_checkpoint accepts e proof proof.checkpoint
