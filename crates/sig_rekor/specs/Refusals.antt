-- *Causes of the refusals*: each error of a check of a checkpoint and an inclusion proof, by the first rule that does
-- not hold, and with the values that it keeps. `accepts` is what the checker accepts under the log's key.
use Rattle.std.specs.Prelude.{◌≡◌, ◌≢◌, ◌⊎◌, ℕ, ◌<◌, ◌≤◌, Bool, IsTrue, List, Any, ℤ, pos, Some, None}
use Rattle.sig_base.specs.declared.error.SigstoreError.{SigstoreError}
use Rattle.sig_base.specs.declared.error.SigstoreError.TheVariants.{CheckpointSignatureVerificationError}
use Rattle.sig_base.specs.declared.error.SigstoreError.TheVariants.{ConsistencyProofError, InclusionProofError}
use Rattle.sig_base.specs.declared.error.SigstoreError.TheVariants.{UnexpectedError}
use Rattle.sig_base.specs.declared.merkle_error.MerkleProofError.{MerkleProofError}
use Rattle.sig_base.specs.declared.merkle_error.MerkleProofError.TheVariants.{MismatchedRoot, IndexGtTreeSize}
use Rattle.sig_base.specs.declared.merkle_error.MerkleProofError.TheVariants.{UnexpectedNonEmptyProof}
use Rattle.sig_base.specs.declared.merkle_error.MerkleProofError.TheVariants.{UnexpectedEmptyProof, NewTreeSmaller}
use Rattle.sig_base.specs.declared.merkle_error.MerkleProofError.TheVariants.{WrongProofSize, WrongEmptyTreeHash}
use Rattle.sig_base.specs.declared.unexpected.UnexpectedKind.TheVariants.{CheckpointMissing}
use Rattle.sig_merkle.specs.Inclusion.{IsIncluded, IsWrongSize}
use Rattle.sig_merkle.specs.Root.{leaf_of}
use Rattle.sig_rekor.specs.declared.checkpoint.Checkpoint.{Checkpoint}
use Rattle.sig_rekor.specs.declared.checkpoint.SignedCheckpoint.{SignedCheckpoint}
use Rattle.sig_rekor.specs.declared.inclusion_proof.InclusionProof.{InclusionProof}
use Rattle.sig_rekor.specs.NoteText.{note_text}
use Rattle.sig_rekor.specs.Verify.{IsOfTree}

-- ---- the tree of a note

-- the note's tree is larger than the proof's, or smaller, or as large and has another root: `old` and `expected` are
-- the note's, `new` and `got` the proof's
abbrev pub IsTreeCause : Checkpoint → List ℕ → ℕ → MerkleProofError → Type 0
IsTreeCause note root size (NewTreeSmaller new old) = (size < note.size) × (new ≡ size) × (old ≡ note.size)
IsTreeCause note root size UnexpectedEmptyProof = note.size < size
IsTreeCause note root size (MismatchedRoot expected got) =
    (note.size ≡ size) × (note.hash ≢ root) × (expected.root ≡ note.hash) × (got.root ≡ root)
IsTreeCause note root size IndexGtTreeSize = ⊥
IsTreeCause note root size UnexpectedNonEmptyProof = ⊥
IsTreeCause note root size (WrongProofSize _ _) = ⊥
IsTreeCause note root size WrongEmptyTreeHash = ⊥

-- *Refusal of a tree*
abbrev pub IsTreeRefusal : Checkpoint → List ℕ → ℕ → SigstoreError → Type 0
IsTreeRefusal note root size e =
    (cause : MerkleProofError) × (e ≡ ConsistencyProofError cause) × IsTreeCause note root size cause

-- ---- a signed head

-- one of the signatures is accepted over the note's text
abbrev pub IsSigned : (List ℕ → List ℕ → Bool) → SignedCheckpoint → Type 0
IsSigned accepts checkpoint =
    Any (λ signature. IsTrue (accepts (note_text checkpoint.note) signature.raw)) checkpoint.signatures

-- the log signed for the tree of this size and root
abbrev pub IsSignedHead : (List ℕ → List ℕ → Bool) → SignedCheckpoint → List ℕ → ℕ → Type 0
IsSignedHead accepts checkpoint root size = IsSigned accepts checkpoint × IsOfTree checkpoint root size

-- *Refusal of a head*: no signature is accepted; or one is, but for another tree
abbrev pub IsHeadRefusal : (List ℕ → List ℕ → Bool) → SignedCheckpoint → List ℕ → ℕ → SigstoreError → Type 0
IsHeadRefusal accepts checkpoint root size e =
    (¬ IsSigned accepts checkpoint × (e ≡ CheckpointSignatureVerificationError))
    ⊎ (IsSigned accepts checkpoint × IsTreeRefusal checkpoint.note root size e)

-- ---- an inclusion proof

-- the index is not that of a leaf, since it is negative or not below the size; else there are too many or too few
-- hashes; else the root that they lead to from the entry's leaf, `expected`, is not the proof's own, `got`
abbrev pub IsPathCause : ℤ → List ℕ → InclusionProof → MerkleProofError → Type 0
IsPathCause index entry proof IndexGtTreeSize = (n : ℕ) → index ≡ pos n → proof.tree_size ≤ n
IsPathCause index entry proof (WrongProofSize got want) =
    (n : ℕ) × (index ≡ pos n) × IsWrongSize n proof.tree_size proof.hashes got want
IsPathCause index entry proof (MismatchedRoot expected got) =
    (n : ℕ) × (index ≡ pos n) × IsIncluded n (leaf_of entry) proof.tree_size proof.hashes expected.root
    × (got.root ≡ proof.root_hash) × (expected.root ≢ proof.root_hash)
IsPathCause index entry proof UnexpectedNonEmptyProof = ⊥
IsPathCause index entry proof UnexpectedEmptyProof = ⊥
IsPathCause index entry proof (NewTreeSmaller _ _) = ⊥
IsPathCause index entry proof WrongEmptyTreeHash = ⊥

abbrev pub IsPathRefusal : List ℕ → InclusionProof → SigstoreError → Type 0
IsPathRefusal entry proof e =
    (cause : MerkleProofError) × (e ≡ InclusionProofError cause) × IsPathCause proof.log_index entry proof cause

-- *Refusal of a proof*: there is no checkpoint; or its head is refused, for the proof's own tree; or the log signed for
-- that tree, and the path is refused
abbrev pub IsProofRefusal : (List ℕ → List ℕ → Bool) → List ℕ → InclusionProof → SigstoreError → Type 0
IsProofRefusal accepts entry proof e =
    ((proof.checkpoint ≡ None) × (e ≡ UnexpectedError CheckpointMissing))
    ⊎ ((checkpoint : SignedCheckpoint) × (proof.checkpoint ≡ Some checkpoint)
    × (IsHeadRefusal accepts checkpoint proof.root_hash proof.tree_size e
    ⊎ (IsSignedHead accepts checkpoint proof.root_hash proof.tree_size × IsPathRefusal entry proof e)))
