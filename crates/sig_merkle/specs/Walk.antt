-- An audit path as a walk over the bits of the leaf's index, from the leaf up to the root.
--
-- The first hashes, the inner ones, are those of the nodes below the one where the path of the leaf parts from that
-- of the last leaf: at each, the next bit of the index says on which side of the path the hash lies. Above, the path
-- is the right border of the tree, and each hash lies on the left. The law `inclusion_walks` says that a walk leads
-- to the root of RFC 6962 section 2.1.1.
use Rattle.std.specs.Prelude.{ℕ, ◌-◌, ◌/◌, ◌%◌, ◌^◌, ◌==◌, List, [], ◌∷◌, take, drop, if◌then◌else◌, bit_xor}
use Rattle.std.specs.Prelude.{count_ones}
use Rattle.std.specs.Int.{w64, leading_zeros}
use Rattle.sig_merkle.specs.Root.{node_of}

-- the number of bits of a number below 2 ^ 64, without leading zeros
unfoldable pub bit_len : ℕ → ℕ
bit_len n = 64 - leading_zeros w64 n

-- the number of inner hashes: the bits up to the highest at which the index differs from that of the last leaf
unfoldable pub inner_len : ℕ → ℕ → ℕ
inner_len index size = bit_len (bit_xor index (size - 1))

-- the number of hashes along the right border: a one bit of the index above the inner ones each
unfoldable pub border_len : ℕ → ℕ → ℕ
border_len index size = count_ones (index / 2 ^ inner_len index size)

-- the node above a value: its hash is that of the right child where the bit is 0, else that of the left
abbrev pub node_by_bit : ℕ → List ℕ → List ℕ → List ℕ
node_by_bit bit value hash = if bit == 0 then node_of value hash else node_of hash value

-- from a value up along the hashes: a step takes each in turn, by the next bit of the index from the lowest on
unfoldable pub bit_fold : (ℕ → List ℕ → List ℕ → List ℕ) → List ℕ → List (List ℕ) → ℕ → List ℕ
bit_fold step value [] index = value
bit_fold step value (hash ∷ rest) index = bit_fold step (step (index % 2) value hash) rest (index / 2)

-- from a value up along the hashes, the side of the first by the lowest bit of the index
abbrev pub inner_fold : List ℕ → List (List ℕ) → ℕ → List ℕ
inner_fold = bit_fold node_by_bit

-- from a value up along the hashes, all of them on the left
unfoldable pub border_fold : List ℕ → List (List ℕ) → List ℕ
border_fold value [] = value
border_fold value (hash ∷ rest) = border_fold (node_of hash value) rest

-- the root that a walk leads to
unfoldable pub walk_root : ℕ → List ℕ → ℕ → List (List ℕ) → List ℕ
walk_root index leaf size hashes =
    border_fold (inner_fold leaf (take (inner_len index size) hashes) index) (drop (inner_len index size) hashes)
