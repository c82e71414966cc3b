-- When a checkpoint and an inclusion proof vouch for an entry, and the result of a check where they do not.
-- `accepts` is what the checker accepts under the log's key: messages and signatures.
use Rattle.std.specs.Prelude.{◌≡◌, ℕ, Bool, IsTrue, nat_lt, bytes_eq, if◌then◌else◌, List, ℤ, pos, negsuc, Option}
use Rattle.std.specs.Prelude.{Some, None, Result, Ok, Err}
use Rattle.std.specs.List.{list_any}
use Rattle.sig_base.specs.declared.error.SigstoreError.{SigstoreError}
use Rattle.sig_base.specs.declared.error.SigstoreError.TheVariants.{CheckpointSignatureVerificationError}
use Rattle.sig_base.specs.declared.error.SigstoreError.TheVariants.{ConsistencyProofError, InclusionProofError}
use Rattle.sig_base.specs.declared.error.SigstoreError.TheVariants.{UnexpectedError}
use Rattle.sig_base.specs.declared.unexpected.UnexpectedKind.TheVariants.{CheckpointMissing}
use Rattle.sig_base.specs.declared.merkle_error.MerkleProofError.{MerkleProofError}
use Rattle.sig_base.specs.declared.merkle_error.MerkleProofError.TheVariants.{NewTreeSmaller, UnexpectedEmptyProof}
use Rattle.sig_base.specs.declared.merkle_error.MerkleProofError.TheVariants.{MismatchedRoot, IndexGtTreeSize}
use Rattle.sig_merkle.specs.Root.{leaf_of}
use Rattle.sig_merkle.specs.Inclusion.{IsIncluded, inclusion_answer}
use Rattle.sig_rekor.specs.declared.checkpoint.SignedCheckpoint.{SignedCheckpoint}
use Rattle.sig_rekor.specs.declared.inclusion_proof.InclusionProof.{InclusionProof}
use Rattle.sig_rekor.specs.NoteText.{note_text}

-- one of the signatures is accepted over the note text
unfoldable pub has_accepted_signature : (List ℕ → List ℕ → Bool) → SignedCheckpoint → Bool
has_accepted_signature accepts checkpoint =
    list_any (λ signature. accepts (note_text checkpoint.note) signature.raw) checkpoint.signatures

abbrev pub answer_if_signed : Bool → Result (Unit {0}) SigstoreError
answer_if_signed signed = if signed then Ok tt else Err CheckpointSignatureVerificationError

abbrev pub signed_answer : (List ℕ → List ℕ → Bool) → SignedCheckpoint → Result (Unit {0}) SigstoreError
signed_answer accepts checkpoint = answer_if_signed (has_accepted_signature accepts checkpoint)

-- a note of these is of the tree of this size and root
abbrev pub IsHeadOf : ℕ → List ℕ → List ℕ → ℕ → Type 0
IsHeadOf note_size note_hash root size = (note_size ≡ size) × (note_hash ≡ root)

-- the note is of the tree of this size and root
abbrev pub IsOfTree : SignedCheckpoint → List ℕ → ℕ → Type 0
IsOfTree checkpoint root size = IsHeadOf checkpoint.note.size checkpoint.note.hash root size

-- a larger note, a smaller one, and one of the same size with another root
abbrev pub size_and_root_answer : ℕ → List ℕ → List ℕ → ℕ → Result (Unit {0}) SigstoreError
size_and_root_answer note_size note_hash root size =
    if nat_lt size note_size then Err (ConsistencyProofError (NewTreeSmaller size note_size)) else
    if nat_lt note_size size then Err (ConsistencyProofError UnexpectedEmptyProof) else
    if bytes_eq note_hash root then Ok tt else
    Err (ConsistencyProofError (MismatchedRoot (record { root = note_hash }) (record { root = root })))

abbrev pub tree_answer : SignedCheckpoint → List ℕ → ℕ → Result (Unit {0}) SigstoreError
tree_answer checkpoint root size = size_and_root_answer checkpoint.note.size checkpoint.note.hash root size

-- the error of the proof as this crate's error
abbrev pub as_inclusion : Result (Unit {0}) MerkleProofError → Result (Unit {0}) SigstoreError
as_inclusion (Ok _) = Ok tt
as_inclusion (Err refusal) = Err (InclusionProofError refusal)

-- the path from the entry's leaf; no leaf has a negative index
abbrev pub inclusion_at : ℤ → List ℕ → InclusionProof → Result (Unit {0}) SigstoreError
inclusion_at (pos index) entry proof =
    as_inclusion (inclusion_answer index (leaf_of entry) proof.tree_size proof.hashes proof.root_hash)
inclusion_at (negsuc _) entry proof = Err (InclusionProofError IndexGtTreeSize)

-- the first error of the two
abbrev pub and_then : Result (Unit {0}) SigstoreError → Result (Unit {0}) SigstoreError
    → Result (Unit {0}) SigstoreError
and_then (Ok _) next = next
and_then (Err refusal) next = Err refusal

abbrev pub checkpoint_answer : (List ℕ → List ℕ → Bool) → InclusionProof → Option SignedCheckpoint
    → Result (Unit {0}) SigstoreError
checkpoint_answer accepts proof None = Err (UnexpectedError CheckpointMissing)
checkpoint_answer accepts proof (Some checkpoint) =
    and_then (signed_answer accepts checkpoint) (tree_answer checkpoint proof.root_hash proof.tree_size)

-- the result of a check of an entry's proof: the first of checkpoint, signature, tree and path that fails
unfoldable pub proof_answer : (List ℕ → List ℕ → Bool) → List ℕ → InclusionProof → Result (Unit {0}) SigstoreError
proof_answer accepts entry proof =
    and_then (checkpoint_answer accepts proof proof.checkpoint) (inclusion_at proof.log_index entry proof)

-- *Vouched*: a signed checkpoint of the proof's own tree, and a path from the entry's leaf to its root
abbrev pub HasCheckpoint : (List ℕ → List ℕ → Bool) → InclusionProof → Option SignedCheckpoint → Type 0
HasCheckpoint accepts proof None = ⊥
HasCheckpoint accepts proof (Some checkpoint) =
    IsTrue (has_accepted_signature accepts checkpoint) × IsOfTree checkpoint proof.root_hash proof.tree_size

abbrev pub IsIncludedAt : ℤ → List ℕ → InclusionProof → Type 0
IsIncludedAt (pos index) entry proof = IsIncluded index (leaf_of entry) proof.tree_size proof.hashes proof.root_hash
IsIncludedAt (negsuc _) entry proof = ⊥

pub record IsVouched (accepts : List ℕ → List ℕ → Bool) (entry : List ℕ) (proof : InclusionProof) : Type 0 where
  pub checkpoint : HasCheckpoint accepts proof proof.checkpoint
  pub path : IsIncludedAt proof.log_index entry proof
