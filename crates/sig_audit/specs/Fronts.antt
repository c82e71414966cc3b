-- How heads compare with the list of all entries of the log (RFC 6962 section 2.1).
use Rattle.std.specs.Prelude.{◌≡◌, ℕ, ◌-◌, ◌≤◌, List, length, map, take, slice_get, Some}
use Rattle.sig_merkle.specs.Root.{root}
use Rattle.sig_audit.specs.declared.chain.ChainHead.{ChainHead}

-- the head has the size and the root of the list's first entries
abbrev pub IsOfFront : List (List ℕ) → ChainHead → Type 0
IsOfFront entries head = (head.size ≤ length entries) × (head.hash ≡ root (take head.size entries))

-- the head has at most this size
abbrev pub IsWithin : ℕ → ChainHead → Type 0
IsWithin size head = head.size ≤ size

-- the head has the size and the root of the list
abbrev pub IsOfList : List (List ℕ) → ChainHead → Type 0
IsOfList entries head = (head.size ≡ length entries) × (head.hash ≡ root entries)

-- the last of these
abbrev pub IsLast : {X : Type 0} → List X → X → Type 0
IsLast elements last = slice_get elements (length elements - 1) ≡ Some last

-- the last head has the size and the root of the list
abbrev pub EndsInList : List (List ℕ) → List ChainHead → Type 0
EndsInList entries heads = (last : ChainHead) × IsLast heads last × IsOfList entries last

-- for private clauses: for each head, the root of the list's first entries, whose number is its size
abbrev pub fronts_of : List (List ℕ) → List ChainHead → List (List ℕ)
fronts_of entries heads = map (λ (head : ChainHead). root (take head.size entries)) heads

-- for private clauses: the heads' sizes
abbrev pub sizes_in : List ChainHead → List ℕ
sizes_in heads = map (λ (head : ChainHead). head.size) heads
