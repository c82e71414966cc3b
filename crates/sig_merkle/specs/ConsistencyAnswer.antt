-- What a consistency proof shows, and the result of a check of one (RFC 6962 section 2.1.2).
use Rattle.std.specs.Prelude.{◌≡◌, ◌≢◌, ◌⊎◌, ℕ, ◌*◌, ◌<◌, true, List, [], ◌∷◌, length, nat_eq, nat_lt, bytes_eq}
use Rattle.std.specs.Prelude.{if◌then◌else◌, Option, Some, None, Result, Ok, Err}
use Rattle.sig_base.specs.Sha256.{sha256}
use Rattle.sig_base.specs.declared.merkle_error.MerkleProofError.{MerkleProofError}
use Rattle.sig_base.specs.declared.merkle_error.MerkleProofError.TheVariants.{MismatchedRoot, IndexGtTreeSize}
use Rattle.sig_base.specs.declared.merkle_error.MerkleProofError.TheVariants.{UnexpectedNonEmptyProof}
use Rattle.sig_base.specs.declared.merkle_error.MerkleProofError.TheVariants.{UnexpectedEmptyProof, NewTreeSmaller}
use Rattle.sig_base.specs.declared.merkle_error.MerkleProofError.TheVariants.{WrongProofSize, WrongEmptyTreeHash}
use Rattle.sig_merkle.specs.Consistency.{roots_of, roots_len}
use Rattle.sig_merkle.specs.Inclusion.{match_root}

-- the tree grew from one that is not empty
abbrev pub HasGrown : ℕ → ℕ → Type 0
HasGrown old_size new_size = (0 < old_size) × (old_size < new_size)

-- the hashes lead to these two roots
abbrev pub LeadsTo : ℕ → ℕ → List ℕ → List (List ℕ) → List ℕ → List ℕ → Type 0
LeadsTo old_size new_size old hashes led_old led_new =
    HasGrown old_size new_size × (roots_of old_size new_size true old hashes ≡ Some (led_old, led_new))

-- the sizes are equal: nothing is left to prove, so the proof has no hash
abbrev pub IsSameTree : ℕ → ℕ → List (List ℕ) → Type 0
IsSameTree old_size new_size hashes = (old_size ≡ new_size) × (hashes ≡ [])

-- the old tree is empty, and the new one is not: every tree grows from it, so there is no hash
abbrev pub IsFromEmpty : ℕ → ℕ → List (List ℕ) → Type 0
IsFromEmpty old_size new_size hashes = (old_size ≡ 0) × (0 < new_size) × (hashes ≡ [])

-- the hashes show that the tree of the new size and root has the tree of the old size and root as
-- its first leaves
abbrev pub IsConsistent : ℕ → ℕ → List (List ℕ) → List ℕ → List ℕ → Type 0
IsConsistent old_size new_size hashes old new =
    (IsSameTree old_size new_size hashes × (old ≡ new))
    ⊎ (IsFromEmpty old_size new_size hashes × (old ≡ sha256 []))
    ⊎ LeadsTo old_size new_size old hashes old new

-- trees of one size
abbrev pub same_tree_answer : List (List ℕ) → List ℕ → List ℕ → Result (Unit {0}) MerkleProofError
same_tree_answer [] old new = match_root (Ok old) new
same_tree_answer (_ ∷ _) old new = Err UnexpectedNonEmptyProof

-- a tree that grew from the empty one: the new root may be any
abbrev pub from_empty_answer : List (List ℕ) → List ℕ → Result (Unit {0}) MerkleProofError
from_empty_answer [] old = if bytes_eq old (sha256 []) then Ok tt else Err WrongEmptyTreeHash
from_empty_answer (_ ∷ _) old = Err UnexpectedNonEmptyProof

-- the comparison of the new root, once the old one was found equal
abbrev pub then_match : Result (Unit {0}) MerkleProofError → List ℕ → List ℕ → Result (Unit {0}) MerkleProofError
then_match (Err refusal) led new = Err refusal
then_match (Ok _) led new = match_root (Ok led) new

-- the roots that a proof leads to have to be the given ones, the old one first
abbrev pub match_roots : Option (List ℕ × List ℕ) → ℕ → ℕ → List ℕ → List ℕ → Result (Unit {0}) MerkleProofError
match_roots None got want old new = Err (WrongProofSize got want)
match_roots (Some led) got want old new = then_match (match_root (Ok led.0) old) led.1 new

-- a tree that grew from one that is not empty
abbrev pub growth_answer : ℕ → ℕ → List (List ℕ) → List ℕ → List ℕ → Result (Unit {0}) MerkleProofError
growth_answer old_size new_size [] old new = Err UnexpectedEmptyProof
growth_answer old_size new_size (hash ∷ rest) old new =
    match_roots (roots_of old_size new_size true old (hash ∷ rest)) (length (hash ∷ rest))
    (roots_len old_size new_size true) old new

-- the result of a check of a consistency proof: the law `consistency_answers` says when each comes
unfoldable pub consistency_answer : ℕ → ℕ → List (List ℕ) → List ℕ → List ℕ → Result (Unit {0}) MerkleProofError
consistency_answer old_size new_size hashes old new =
    if nat_lt new_size old_size then Err (NewTreeSmaller new_size old_size)
    else (if nat_eq old_size new_size then same_tree_answer hashes old new
    else (if nat_eq old_size 0 then from_empty_answer hashes old
    else growth_answer old_size new_size hashes old new))

-- there are `got` hashes, at least one, and a proof between trees of these sizes has `want`
abbrev pub IsWrongGrowthSize : ℕ → ℕ → List (List ℕ) → ℕ → ℕ → Type 0
IsWrongGrowthSize old_size new_size hashes got want =
    HasGrown old_size new_size × (hashes ≢ []) × (got ≡ length hashes) × (want ≡ roots_len old_size new_size true)
    × (got ≢ want)

-- the first comparison of roots that fails is of `expected`, which is computed, with `got`, which is given: that of the
-- two given roots, if the sizes are equal; of the old root; or of the new root
abbrev pub IsMismatch : ℕ → ℕ → List (List ℕ) → List ℕ → List ℕ → List ℕ → List ℕ → Type 0
IsMismatch old_size new_size hashes old new expected got =
    (expected ≢ got)
    × ((IsSameTree old_size new_size hashes × (expected ≡ old) × (got ≡ new))
    ⊎ (((led_new : List ℕ) × LeadsTo old_size new_size old hashes expected led_new) × (got ≡ old))
    ⊎ (LeadsTo old_size new_size old hashes old expected × (got ≡ new)))

-- the cause of each result of `verify_consistency`
abbrev pub IsConsistencyAnswer : ℕ → ℕ → List (List ℕ) → List ℕ → List ℕ → Result (Unit {0}) MerkleProofError → Type 0
IsConsistencyAnswer old_size new_size hashes old new (Ok _) = IsConsistent old_size new_size hashes old new
IsConsistencyAnswer old_size new_size hashes old new (Err (NewTreeSmaller kept_new kept_old)) =
    (new_size < old_size) × (kept_new ≡ new_size) × (kept_old ≡ old_size)
IsConsistencyAnswer old_size new_size hashes old new (Err UnexpectedNonEmptyProof) =
    ((old_size ≡ new_size) ⊎ (old_size ≡ 0)) × (hashes ≢ [])
IsConsistencyAnswer old_size new_size hashes old new (Err WrongEmptyTreeHash) =
    IsFromEmpty old_size new_size hashes × (old ≢ sha256 [])
IsConsistencyAnswer old_size new_size hashes old new (Err UnexpectedEmptyProof) =
    HasGrown old_size new_size × (hashes ≡ [])
IsConsistencyAnswer old_size new_size hashes old new (Err (WrongProofSize got want)) =
    IsWrongGrowthSize old_size new_size hashes got want
IsConsistencyAnswer old_size new_size hashes old new (Err (MismatchedRoot expected got)) =
    IsMismatch old_size new_size hashes old new expected.root got.root
IsConsistencyAnswer old_size new_size hashes old new (Err IndexGtTreeSize) = ⊥

-- how many pairs of children a consistency check hashes at most: two for each hash of a proof whose roots were
-- compared, and 0 if it fails otherwise
abbrev pub most_steps : Result (Unit {0}) MerkleProofError → ℕ → ℕ
most_steps (Ok _) count = 2 * count
most_steps (Err (MismatchedRoot _ _)) count = 2 * count
most_steps (Err (NewTreeSmaller _ _)) count = 0
most_steps (Err UnexpectedNonEmptyProof) count = 0
most_steps (Err WrongEmptyTreeHash) count = 0
most_steps (Err UnexpectedEmptyProof) count = 0
most_steps (Err (WrongProofSize _ _)) count = 0
most_steps (Err IndexGtTreeSize) count = 0
