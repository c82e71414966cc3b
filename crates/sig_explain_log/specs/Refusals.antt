-- What is shown of the links on checkpoints and on proofs over trees, which several commands have: the cause, and what
-- the link compares. Where the link holds, these have nothing.
use Rattle.std.specs.Prelude.{ℕ, List, [], ◌∷◌, codes, Result, Ok, Err}
use Rattle.sig_base.specs.declared.checker.AcceptedRow.{AcceptedRow}
use Rattle.sig_base.specs.declared.error.SigstoreError.{SigstoreError}
use Rattle.sig_base.specs.declared.error.SigstoreError.TheVariants.{ConsistencyProofError}
use Rattle.sig_base.specs.declared.fault.CheckpointFault.{CheckpointFault}
use Rattle.sig_base.specs.declared.merkle_error.MerkleProofError.{MerkleProofError}
use Rattle.sig_base.specs.declared.scheme.VerifyScheme.{VerifyScheme}
use Rattle.sig_json.specs.Writing.{TreeMember}
use Rattle.sig_evidence.specs.Accepted.{asked_note_rows}
use Rattle.sig_explanation.specs.KeptRows.{merkle_rows}
use Rattle.sig_explanation.specs.Names.{checkpoint_name, merkle_name}
use Rattle.sig_rekor.specs.NoteText.{note_text}
use Rattle.sig_rekor.specs.Verify.{tree_answer}
use Rattle.sig_rekor.specs.declared.checkpoint.SignedCheckpoint.{SignedCheckpoint}
use Rattle.sig_shown.specs.ShownValues.{texts_row}

-- ---- a text that is not a checkpoint

abbrev pub checkpoint_fault_rows : CheckpointFault → List TreeMember
checkpoint_fault_rows fault =
    texts_row (codes "cause") (codes "ParseCheckpointError" ∷ checkpoint_name fault ∷ []) ∷ []

-- what is shown of what a text was read as
abbrev pub unread_rows : Result SignedCheckpoint CheckpointFault → List TreeMember
unread_rows (Ok _) = []
unread_rows (Err fault) = checkpoint_fault_rows fault

-- ---- a note that the log did not sign

-- the scheme, the key and the note that are asked about, and which of these the accepted signatures have
abbrev pub note_key_rows : VerifyScheme → List ℕ → List AcceptedRow → SignedCheckpoint → List TreeMember
note_key_rows scheme key rows checkpoint =
    texts_row (codes "cause") (codes "CheckpointSignatureVerificationError" ∷ [])
    ∷ asked_note_rows rows scheme key (note_text checkpoint.note) checkpoint.signatures

-- what is shown of what a text was read as; nothing if it is not a checkpoint
abbrev pub unsigned_rows : VerifyScheme → List ℕ → List AcceptedRow → Result SignedCheckpoint CheckpointFault
    → List TreeMember
unsigned_rows scheme key rows (Ok checkpoint) = note_key_rows scheme key rows checkpoint
unsigned_rows scheme key rows (Err _) = []

-- ---- proofs over trees: the name of the error, and what it keeps

abbrev pub consistency_error_rows : MerkleProofError → List TreeMember
consistency_error_rows error =
    texts_row (codes "cause") (codes "ConsistencyProofError" ∷ merkle_name error ∷ []) ∷ merkle_rows error

abbrev pub inclusion_error_rows : MerkleProofError → List TreeMember
inclusion_error_rows error =
    texts_row (codes "cause") (codes "InclusionProofError" ∷ merkle_name error ∷ []) ∷ merkle_rows error

-- the same for the result of a check
abbrev pub consistency_rows : Result (Unit {0}) MerkleProofError → List TreeMember
consistency_rows (Ok _) = []
consistency_rows (Err error) = consistency_error_rows error

abbrev pub inclusion_rows : Result (Unit {0}) MerkleProofError → List TreeMember
inclusion_rows (Ok _) = []
inclusion_rows (Err error) = inclusion_error_rows error

-- ---- a note of another tree

-- what is shown of the comparison of a note with a tree
abbrev pub tree_rows : Result (Unit {0}) SigstoreError → List TreeMember
tree_rows (Err (ConsistencyProofError error)) = consistency_error_rows error
tree_rows other = []

-- what is shown of what a text was read as, and the size and the root of the tree; nothing if it is not a checkpoint
abbrev pub mismatch_rows : ℕ → List ℕ → Result SignedCheckpoint CheckpointFault → List TreeMember
mismatch_rows size root (Ok checkpoint) = tree_rows (tree_answer checkpoint root size)
mismatch_rows size root (Err _) = []
