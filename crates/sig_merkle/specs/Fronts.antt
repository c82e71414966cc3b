-- The roots of the trees of a list's first entries, at several sizes (RFC 6962 section 2.1).
use Rattle.std.specs.Prelude.{ℕ, suc, ◌-◌, ◌≤◌, List, [], ◌∷◌, map, take, nat_le, if◌then◌else◌}
use Rattle.sig_merkle.specs.Root.{root}

-- no count is below the one before it, and the first is not below `least`
abbrev pub Ascend : ℕ → List ℕ → Type 0
Ascend least [] = Unit {0}
Ascend least (count ∷ later) = (least ≤ count) × Ascend count later

-- the root of the first `count` entries
abbrev pub front_root : List (List ℕ) → ℕ → List ℕ
front_root entries count = root (take count entries)

-- for private clauses: the same for entries after `start` others, which the count includes
abbrev pub root_after : ℕ → List (List ℕ) → ℕ → List ℕ
root_after start entries count = front_root entries (count - start)

-- for private clauses: how many counts, from the first, are at most this
unfoldable pub within_len : ℕ → List ℕ → ℕ
within_len most [] = 0
within_len most (count ∷ later) = if nat_le count most then suc (within_len most later) else 0
