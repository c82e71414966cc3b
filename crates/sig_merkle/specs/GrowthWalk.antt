-- A consistency proof between trees of 0 < m < n leaves as a walk over bits: from the last node that the tree of m
-- leaves fills, up to both roots. The path is that of leaf m - 1 in the tree of n leaves, from the level of that node
-- on: the zeros at the end of m say how high it is.
--
-- The law `consistency_walks` says that a walk leads to the roots of RFC 6962 section 2.1.2.
use Rattle.std.specs.Prelude.{ℕ, ◌-◌, ◌/◌, ◌^◌, ◌==◌, List, take, drop, slice_index_or, if◌then◌else◌}
use Rattle.std.specs.Int.{w64, trailing_zeros}
use Rattle.sig_merkle.specs.Root.{node_of}
use Rattle.sig_merkle.specs.Walk.{inner_len, bit_fold, inner_fold, border_fold}

-- the level of the last node that m leaves fill
unfoldable pub shift_of : ℕ → ℕ
shift_of m = trailing_zeros w64 m

-- the bits of the last leaf's index from that level on
unfoldable pub mask_of : ℕ → ℕ
mask_of m = (m - 1) / 2 ^ shift_of m

-- the value itself where the bit is 0, else the node above it and the hash on its left
abbrev pub kept_by_bit : ℕ → List ℕ → List ℕ → List ℕ
kept_by_bit bit value hash = if bit == 0 then value else node_of hash value

-- from a value up along those hashes that lie on the left: the first lies on the left if the lowest bit of the index is
-- 1
abbrev pub right_fold : List ℕ → List (List ℕ) → ℕ → List ℕ
right_fold = bit_fold kept_by_bit

-- how many hashes of a proof come before the walk: 0 if the m leaves fill one node, whose hash is the old root, else 1,
-- the hash of the last node that they fill
unfoldable pub seed_len : ℕ → ℕ
seed_len m = if m == 2 ^ shift_of m then 0 else 1

-- the hash of the last node that the m leaves fill
unfoldable pub seed_of : ℕ → List ℕ → List (List ℕ) → List ℕ
seed_of m old hashes = if m == 2 ^ shift_of m then old else slice_index_or hashes 0 old

-- the number of inner hashes
unfoldable pub growth_inner_len : ℕ → ℕ → ℕ
growth_inner_len m n = inner_len (m - 1) n - shift_of m

-- from a hash of the last filled node up along the hashes: the old root takes only those on the left
abbrev pub climb_old : ℕ → List ℕ → ℕ → List (List ℕ) → List ℕ
climb_old inner seed mask hashes = border_fold (right_fold seed (take inner hashes) mask) (drop inner hashes)

abbrev pub climb_new : ℕ → List ℕ → ℕ → List (List ℕ) → List ℕ
climb_new inner seed mask hashes = border_fold (inner_fold seed (take inner hashes) mask) (drop inner hashes)

-- the roots that a walk leads to
unfoldable pub walk_roots : ℕ → ℕ → List ℕ → List (List ℕ) → List ℕ × List ℕ
walk_roots m n old hashes = (
  climb_old (growth_inner_len m n) (seed_of m old hashes) (mask_of m) (drop (seed_len m) hashes),
  climb_new (growth_inner_len m n) (seed_of m old hashes) (mask_of m) (drop (seed_len m) hashes),
)
