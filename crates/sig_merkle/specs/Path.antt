-- Where an audit path leads (RFC 6962 section 2.1.1): the root that the hash of the leaf at an
-- index and the hashes of its path make, in a tree of a size. The last hash of a path is that of
-- the half that the leaf is not in, and the hashes before it are the path within the leaf's half.
--
-- As `root`, these go down by levels. The law `path_roots` states the standard's own recursion.
use Rattle.std.specs.Prelude.{ℕ, zero, suc, ◌+◌, ◌-◌, ◌^◌, List, [], ◌∷◌, reverse, nat_lt, if◌then◌else◌, Option, Some}
use Rattle.std.specs.Prelude.{None, option_map}
use Rattle.sig_merkle.specs.Root.{node_of}

-- the leaf itself, where no hash is left
abbrev pub at_leaf : List ℕ → List (List ℕ) → Option (List ℕ)
at_leaf leaf [] = Some leaf
at_leaf leaf (_ ∷ _) = None

-- the leaf is in the left half: the first hash is the right child
abbrev pub with_right : List (List ℕ) → (List (List ℕ) → Option (List ℕ)) → Option (List ℕ)
with_right [] left = None
with_right (hash ∷ rest) left = option_map (λ child. node_of child hash) (left rest)

-- the leaf is in the right half: the first hash is the left child
abbrev pub with_left : List (List ℕ) → (List (List ℕ) → Option (List ℕ)) → Option (List ℕ)
with_left [] right = None
with_left (hash ∷ rest) right = option_map (λ child. node_of hash child) (right rest)

-- the root in a tree of at most 2 ^ level leaves, with the hashes from the root downward
unfoldable pub path_root_at : ℕ → ℕ → List ℕ → ℕ → List (List ℕ) → Option (List ℕ)
path_root_at zero index leaf size hashes = at_leaf leaf hashes
path_root_at (suc level) index leaf size hashes =
    if nat_lt (2 ^ level) size
    then (if nat_lt index (2 ^ level)
    then with_right hashes (λ rest. path_root_at level index leaf (2 ^ level) rest)
    else with_left hashes (λ rest. path_root_at level (index - 2 ^ level) leaf (size - 2 ^ level) rest))
    else path_root_at level index leaf size hashes

-- the root that a path leads to; `None` if the number of its hashes does not fit
unfoldable pub path_root : ℕ → List ℕ → ℕ → List (List ℕ) → Option (List ℕ)
path_root index leaf size hashes = path_root_at size index leaf size (reverse hashes)

-- the number of hashes of a path in a tree of at most 2 ^ level leaves
unfoldable pub path_len_at : ℕ → ℕ → ℕ → ℕ
path_len_at zero index size = 0
path_len_at (suc level) index size =
    if nat_lt (2 ^ level) size
    then (if nat_lt index (2 ^ level)
    then path_len_at level index (2 ^ level) + 1
    else path_len_at level (index - 2 ^ level) (size - 2 ^ level) + 1)
    else path_len_at level index size

-- the number of hashes of the path of the leaf at the index, in a tree of the size
unfoldable pub path_len : ℕ → ℕ → ℕ
path_len index size = path_len_at size index size
