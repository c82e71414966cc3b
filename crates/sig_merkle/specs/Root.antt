-- The Merkle tree hash of a list of entries (RFC 6962 section 2.1).
--
-- `root` descends by levels: at level e a tree has at most 2 ^ e leaves, and is cut at
-- 2 ^ (e - 1) where it has more leaves than that. The law `tree_roots` states the standard's own
-- recursion, over the largest power of two below the number of leaves.
use Rattle.std.specs.Prelude.{ℕ, zero, suc, ◌^◌, List, [], ◌∷◌, ◌++◌, length, take, drop, nat_lt, if◌then◌else◌}
use Rattle.sig_base.specs.Sha256.{sha256}

-- the hash of a leaf: SHA-256 of 0x00 and the entry
abbrev pub leaf_of : List ℕ → List ℕ
leaf_of entry = sha256 (0 ∷ entry)

-- the hash of a node: SHA-256 of 0x01 and its children's hashes, the left one first
abbrev pub node_of : List ℕ → List ℕ → List ℕ
node_of left right = sha256 (1 ∷ left ++ right)

-- the root of at most one entry: SHA-256 of nothing, or the leaf's hash
abbrev pub short_root : List (List ℕ) → List ℕ
short_root [] = sha256 []
short_root (entry ∷ _) = leaf_of entry

-- the root of at most 2 ^ level entries
unfoldable pub root_at : ℕ → List (List ℕ) → List ℕ
root_at zero entries = short_root entries
root_at (suc level) entries =
    if nat_lt (2 ^ level) (length entries)
    then node_of (root_at level (take (2 ^ level) entries)) (root_at level (drop (2 ^ level) entries))
    else root_at level entries

-- the root of a list of entries; n entries are at most 2 ^ n
unfoldable pub root : List (List ℕ) → List ℕ
root entries = root_at (length entries) entries
