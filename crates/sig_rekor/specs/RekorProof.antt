-- *Proof from Rekor*: the inclusion proof that Rekor's API returns, as the proof that it is (RFC 6962 section 2.1.1).
-- Hashes are texts in hexadecimal, and the checkpoint is a text, empty if there is none.
use Rattle.std.specs.Prelude.{ℕ, List, [], ◌∷◌, Option, Some, None, Result, Ok, Err}
use Rattle.sig_base.specs.ResultSteps.{◌>>=◌}
use Rattle.sig_base.specs.declared.error.SigstoreError.{SigstoreError}
use Rattle.sig_base.specs.declared.error.SigstoreError.TheVariants.{ParseCheckpointError}
use Rattle.sig_base.specs.declared.fault.CheckpointFault.{CheckpointFault}
use Rattle.sig_base.specs.declared.unexpected.UnexpectedKind.TheVariants.{RootLength}
use Rattle.sig_rekor.specs.declared.checkpoint.SignedCheckpoint.{SignedCheckpoint}
use Rattle.sig_rekor.specs.declared.inclusion_proof.InclusionProof.{InclusionProof}
use Rattle.sig_rekor.specs.declared.rekor_proof.RekorInclusionProof.{RekorInclusionProof}
use Rattle.sig_rekor.specs.CheckpointText.{checkpoint_of}
use Rattle.sig_rekor.specs.HashText.{hash_in, hashes_from}

-- a checkpoint that was read is there; a fault of its text is this crate's error
abbrev pub there : Result SignedCheckpoint CheckpointFault → Result (Option SignedCheckpoint) SigstoreError
there (Ok checkpoint) = Ok (Some checkpoint)
there (Err fault) = Err (ParseCheckpointError fault)

-- the checkpoint of a text that may be empty
unfoldable pub checkpoint_or_none : List ℕ → Result (Option SignedCheckpoint) SigstoreError
checkpoint_or_none [] = Ok None
checkpoint_or_none (first ∷ others) = there (checkpoint_of (first ∷ others))

-- the proof, or the first part that is wrong: the hashes in order, the root hash, the checkpoint
unfoldable pub inclusion_proof_from_rekor : RekorInclusionProof → Result InclusionProof SigstoreError
inclusion_proof_from_rekor api = do
  hashes ← hashes_from 0 api.hashes
  root ← hash_in RootLength api.root_hash
  checkpoint ← checkpoint_or_none api.checkpoint
  Ok (record {
    log_index = api.log_index;
    root_hash = root;
    tree_size = api.tree_size;
    hashes = hashes;
    checkpoint = checkpoint;
  })
