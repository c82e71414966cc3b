-- What a source gives and a sink takes, and what a fault of either depends on. A source means the bytes that it has
-- left, a sink those that it took so far, if it tells them; and each has a count of faults.
use Rattle.std.specs.Prelude.{◌≡◌, ℕ, ◌+◌, ◌-◌, ◌^◌, ◌<◌, ◌≤◌, min, List, [], ◌∷◌, ◌++◌, length, ⊤, Option, None}
use Rattle.std.specs.Prelude.{Some, Result, IfOk, OnErr}
use Rattle.std.specs.Io.KnownBytes.{Consumes, IsAtEnd}

-- the count of faults rose, or was at its greatest value
abbrev pub Rose : ℕ → ℕ → Type 0
Rose before now = min (before + 1) (2 ^ 64 - 1) ≤ now

-- the count of faults never falls, and a fault comes only where it rose
pub record HasCause {T E : Type 0} (before now : ℕ) (result : Result T E) : Type 0 where
  pub later : before ≤ now
  pub failed : OnErr result (Rose before now)

-- a piece that is not empty moves a byte
abbrev pub Moves : {E : Type 0} → Result ℕ E → List ℕ → Type 0
Moves result piece = IfOk result (λ count. 0 < length piece → 0 < count)

-- this piece was given after those before it, if the sink tells them
abbrev pub Hands : Option (List (List ℕ)) → Option (List (List ℕ)) → List ℕ → Type 0
Hands None new piece = ⊤
Hands (Some before) new piece = new ≡ Some (before ++ piece ∷ [])

-- these are all the bytes that were left, and the source is at its end
pub record HandsOver (old new : Option (List ℕ)) (bytes : List ℕ) : Type 0 where
  pub taken : Consumes old new bytes
  pub ended : IsAtEnd new

-- this many bytes were taken
abbrev pub TookCount : Option (List ℕ) → Option (List ℕ) → ℕ → Type 0
TookCount old new count = (bytes : List ℕ) × Consumes old new bytes × (length bytes ≡ count)

-- at most this many bytes were taken, from the front of those that were left
abbrev pub TookAtMost : ℕ → Option (List ℕ) → Option (List ℕ) → Type 0
TookAtMost n old new = (bytes : List ℕ) × Consumes old new bytes × (length bytes ≤ n)
