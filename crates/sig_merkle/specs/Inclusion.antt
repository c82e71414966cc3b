-- What an inclusion proof shows, and the result of a check of one (RFC 6962 section 2.1.1).
use Rattle.std.specs.Prelude.{◌≡◌, ◌≢◌, ℕ, ◌<◌, ◌≤◌, List, length, nat_le, bytes_eq, if◌then◌else◌, Option, Some, None}
use Rattle.std.specs.Prelude.{Result, Ok, Err}
use Rattle.sig_base.specs.declared.merkle_error.MerkleProofError.{MerkleProofError}
use Rattle.sig_base.specs.declared.merkle_error.MerkleProofError.TheVariants.{MismatchedRoot, IndexGtTreeSize}
use Rattle.sig_base.specs.declared.merkle_error.MerkleProofError.TheVariants.{UnexpectedNonEmptyProof}
use Rattle.sig_base.specs.declared.merkle_error.MerkleProofError.TheVariants.{UnexpectedEmptyProof, NewTreeSmaller}
use Rattle.sig_base.specs.declared.merkle_error.MerkleProofError.TheVariants.{WrongProofSize, WrongEmptyTreeHash}
use Rattle.sig_merkle.specs.Path.{path_root, path_len}
use Rattle.sig_merkle.specs.Root.{leaf_of}

-- the hashes show that a leaf of this hash is at the index of the tree of this size and root
abbrev pub IsIncluded : ℕ → List ℕ → ℕ → List (List ℕ) → List ℕ → Type 0
IsIncluded index leaf size hashes root = (index < size) × (path_root index leaf size hashes ≡ Some root)

-- both entries are shown to be at the index of one tree of this size
abbrev pub AreIncluded : ℕ → ℕ → List ℕ → List (List ℕ) → List ℕ → List (List ℕ) → Type 0
AreIncluded index size left left_hashes right right_hashes =
    (root : List ℕ) × IsIncluded index (leaf_of left) size left_hashes root
    × IsIncluded index (leaf_of right) size right_hashes root

-- there are `got` hashes, and the path of the index has `want`
abbrev pub IsWrongSize : ℕ → ℕ → List (List ℕ) → ℕ → ℕ → Type 0
IsWrongSize index size hashes got want =
    (index < size) × (got ≡ length hashes) × (want ≡ path_len index size) × (got ≢ want)

-- the root of a path, or that the number of its hashes does not fit
abbrev pub root_or_wrong_size : Option (List ℕ) → ℕ → ℕ → Result (List ℕ) MerkleProofError
root_or_wrong_size (Some root) got want = Ok root
root_or_wrong_size None got want = Err (WrongProofSize got want)

-- the root that a proof leads to, or why there is no root
unfoldable pub inclusion_root : ℕ → List ℕ → ℕ → List (List ℕ) → Result (List ℕ) MerkleProofError
inclusion_root index leaf size hashes =
    if nat_le size index then Err IndexGtTreeSize
    else root_or_wrong_size (path_root index leaf size hashes) (length hashes) (path_len index size)

-- the computed root has to be the given one
abbrev pub match_root : Result (List ℕ) MerkleProofError → List ℕ → Result (Unit {0}) MerkleProofError
match_root (Err refusal) root = Err refusal
match_root (Ok computed) root =
    if bytes_eq computed root then Ok tt
    else Err (MismatchedRoot (record { root = computed }) (record { root = root }))

-- the result of a check of an inclusion proof: the law `inclusion_answers` says when each comes
unfoldable pub inclusion_answer : ℕ → List ℕ → ℕ → List (List ℕ) → List ℕ → Result (Unit {0}) MerkleProofError
inclusion_answer index leaf size hashes root = match_root (inclusion_root index leaf size hashes) root

-- the cause of each result of `root_from_inclusion_proof`
abbrev pub IsRootAnswer : ℕ → List ℕ → ℕ → List (List ℕ) → Result (List ℕ) MerkleProofError → Type 0
IsRootAnswer index leaf size hashes (Ok root) = IsIncluded index leaf size hashes root
IsRootAnswer index leaf size hashes (Err IndexGtTreeSize) = size ≤ index
IsRootAnswer index leaf size hashes (Err (WrongProofSize got want)) = IsWrongSize index size hashes got want
IsRootAnswer index leaf size hashes (Err (MismatchedRoot _ _)) = ⊥
IsRootAnswer index leaf size hashes (Err UnexpectedNonEmptyProof) = ⊥
IsRootAnswer index leaf size hashes (Err UnexpectedEmptyProof) = ⊥
IsRootAnswer index leaf size hashes (Err (NewTreeSmaller _ _)) = ⊥
IsRootAnswer index leaf size hashes (Err WrongEmptyTreeHash) = ⊥

-- the cause of each result of `verify_inclusion`
abbrev pub IsInclusionAnswer : ℕ → List ℕ → ℕ → List (List ℕ) → List ℕ → Result (Unit {0}) MerkleProofError → Type 0
IsInclusionAnswer index leaf size hashes root (Ok _) = IsIncluded index leaf size hashes root
IsInclusionAnswer index leaf size hashes root (Err IndexGtTreeSize) = size ≤ index
IsInclusionAnswer index leaf size hashes root (Err (WrongProofSize got want)) = IsWrongSize index size hashes got want
IsInclusionAnswer index leaf size hashes root (Err (MismatchedRoot expected got)) =
    IsIncluded index leaf size hashes expected.root × (got.root ≡ root) × (expected.root ≢ root)
IsInclusionAnswer index leaf size hashes root (Err UnexpectedNonEmptyProof) = ⊥
IsInclusionAnswer index leaf size hashes root (Err UnexpectedEmptyProof) = ⊥
IsInclusionAnswer index leaf size hashes root (Err (NewTreeSmaller _ _)) = ⊥
IsInclusionAnswer index leaf size hashes root (Err WrongEmptyTreeHash) = ⊥

-- how many pairs of children an inclusion check hashes: all hashes of a path whose root was compared, and 0 if the
-- index or the number of hashes is wrong
abbrev pub inclusion_steps : Result (Unit {0}) MerkleProofError → ℕ → ℕ
inclusion_steps (Ok _) count = count
inclusion_steps (Err (MismatchedRoot _ _)) count = count
inclusion_steps (Err IndexGtTreeSize) count = 0
inclusion_steps (Err (WrongProofSize _ _)) count = 0
inclusion_steps (Err UnexpectedNonEmptyProof) count = 0
inclusion_steps (Err UnexpectedEmptyProof) count = 0
inclusion_steps (Err (NewTreeSmaller _ _)) count = 0
inclusion_steps (Err WrongEmptyTreeHash) count = 0
