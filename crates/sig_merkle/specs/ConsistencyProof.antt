-- The consistency proof between the first m entries of a list and all of them, 0 < m: PROOF and SUBPROOF of RFC 6962
-- section 2.1.2. It has the hashes of the halves that are not entered, the smallest one first, and before them the root
-- of the tree that both have, unless `known` says that the proof is requested for that tree.
--
-- As `root`, this goes down by levels. The law `consistency_proofs` states the standard's own recursion.
use Rattle.std.specs.Prelude.{ℕ, zero, suc, ◌-◌, ◌^◌, Bool, true, false, List, [], ◌∷◌, ◌++◌, length, take, drop}
use Rattle.std.specs.Prelude.{nat_eq, nat_lt, nat_le, if◌then◌else◌}
use Rattle.sig_merkle.specs.Root.{root}

-- the first m entries are all of them
abbrev pub shared_proof : Bool → List (List ℕ) → List (List ℕ)
shared_proof true entries = []
shared_proof false entries = root entries ∷ []

-- the proof within at most 2 ^ level entries
unfoldable pub subproof_at : ℕ → ℕ → List (List ℕ) → Bool → List (List ℕ)
subproof_at zero old_size entries known = shared_proof known entries
subproof_at (suc level) old_size entries known =
    if nat_eq old_size (length entries) then shared_proof known entries
    else (if nat_lt (2 ^ level) (length entries)
    then (if nat_le old_size (2 ^ level)
    then subproof_at level old_size (take (2 ^ level) entries) known ++ root (drop (2 ^ level) entries) ∷ []
    else subproof_at level (old_size - 2 ^ level) (drop (2 ^ level) entries) false
    ++ root (take (2 ^ level) entries) ∷ [])
    else subproof_at level old_size entries known)

unfoldable pub subproof : ℕ → List (List ℕ) → Bool → List (List ℕ)
subproof old_size entries known = subproof_at (length entries) old_size entries known

-- PROOF: the old root is the one that the proof is requested for
abbrev pub consistency_proof : ℕ → List (List ℕ) → List (List ℕ)
consistency_proof old_size entries = subproof old_size entries true
