-- What a consistency proof leads to (RFC 6962 section 2.1.2): the roots of the first m and of all n leaves of a tree, 0
-- < m ≤ n, as the hashes of the proof make them. The last hash of a proof is that of a half which is not entered: of
-- the right half, where the first m leaves are within the left, and else of the left half, which both trees have. The
-- hashes before it are the proof within the other half. `known` is the flag of the standard's SUBPROOF: the root of the
-- m leaves, `old`, is the one that the proof is requested for, so the proof does not repeat it.
--
-- As `root`, these go down by levels. The law `consistency_roots` states the standard's own recursion.
use Rattle.std.specs.Prelude.{ℕ, zero, suc, ◌+◌, ◌-◌, ◌^◌, Bool, true, false, List, [], ◌∷◌, reverse, nat_eq, nat_lt}
use Rattle.std.specs.Prelude.{nat_le, if◌then◌else◌, Option, Some, None, option_map}
use Rattle.sig_merkle.specs.Root.{node_of}

-- the m leaves are the whole tree: its root is the known one, or the only hash that is left
abbrev pub at_shared : Bool → List ℕ → List (List ℕ) → Option (List ℕ × List ℕ)
at_shared true old [] = Some (old, old)
at_shared true old (_ ∷ _) = None
at_shared false old [] = None
at_shared false old (hash ∷ []) = Some (hash, hash)
at_shared false old (_ ∷ _ ∷ _) = None

-- the roots, where the old tree is in the left half, and the right half has this hash
abbrev pub grown_by : List ℕ → List ℕ × List ℕ → List ℕ × List ℕ
grown_by hash roots = (roots.0, node_of roots.1 hash)

-- the roots, where both trees have the left half, of this hash
abbrev pub beside : List ℕ → List ℕ × List ℕ → List ℕ × List ℕ
beside hash roots = (node_of hash roots.0, node_of hash roots.1)

-- the old tree is in the left half: the first hash is the right child of the new tree's root
abbrev pub with_grown : List (List ℕ) → (List (List ℕ) → Option (List ℕ × List ℕ)) → Option (List ℕ × List ℕ)
with_grown [] left = None
with_grown (hash ∷ rest) left = option_map (grown_by hash) (left rest)

-- the old tree has leaves in the right half: the first hash is the left child of both roots
abbrev pub with_beside : List (List ℕ) → (List (List ℕ) → Option (List ℕ × List ℕ)) → Option (List ℕ × List ℕ)
with_beside [] right = None
with_beside (hash ∷ rest) right = option_map (beside hash) (right rest)

-- the roots of a tree of at most 2 ^ level leaves, with the hashes from the root downward
unfoldable pub roots_at : ℕ → ℕ → ℕ → Bool → List ℕ → List (List ℕ) → Option (List ℕ × List ℕ)
roots_at zero old_size size known old hashes = at_shared known old hashes
roots_at (suc level) old_size size known old hashes =
    if nat_eq old_size size then at_shared known old hashes
    else (if nat_lt (2 ^ level) size
    then (if nat_le old_size (2 ^ level)
    then with_grown hashes (λ rest. roots_at level old_size (2 ^ level) known old rest)
    else with_beside hashes (λ rest. roots_at level (old_size - 2 ^ level) (size - 2 ^ level) false old rest))
    else roots_at level old_size size known old hashes)

-- the old and the new root that a proof leads to; `None` if the number of its hashes does not fit
unfoldable pub roots_of : ℕ → ℕ → Bool → List ℕ → List (List ℕ) → Option (List ℕ × List ℕ)
roots_of old_size size known old hashes = roots_at size old_size size known old (reverse hashes)

-- the hashes of a proof within a tree that the old one fills
abbrev pub shared_len : Bool → ℕ
shared_len true = 0
shared_len false = 1

-- the number of hashes of a proof in a tree of at most 2 ^ level leaves
unfoldable pub roots_len_at : ℕ → ℕ → ℕ → Bool → ℕ
roots_len_at zero old_size size known = shared_len known
roots_len_at (suc level) old_size size known =
    if nat_eq old_size size then shared_len known
    else (if nat_lt (2 ^ level) size
    then (if nat_le old_size (2 ^ level)
    then roots_len_at level old_size (2 ^ level) known + 1
    else roots_len_at level (old_size - 2 ^ level) (size - 2 ^ level) false + 1)
    else roots_len_at level old_size size known)

-- the number of hashes of a proof between trees of these sizes
unfoldable pub roots_len : ℕ → ℕ → Bool → ℕ
roots_len old_size size known = roots_len_at size old_size size known
