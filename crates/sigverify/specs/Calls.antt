-- Which calls of a reader or a writer are made again: those that a signal interrupted, and no others.
use Rattle.std.specs.Prelude.{◌≡◌, ℕ, ◌+◌, ◌-◌, ◌^◌, List, [], ◌∷◌, ◌++◌, replicate, ⊤, Option, Some, None, Result, Ok, Err}
use Rattle.std.specs.IoError.{error_kind}
use Rattle.std.specs.declared.io.Error.{Error}
use Rattle.std.specs.declared.io.ErrorKind.{ErrorKind}
use Rattle.std.specs.declared.io.ErrorKind.TheVariants.{Interrupted}

-- what a call came to: the kind of its error, or no error
abbrev pub Outcome : Type 0
Outcome = Option ErrorKind

abbrev pub outcome_of : {A : Type 0} → Result A Error → Outcome
outcome_of (Ok value) = None
outcome_of (Err error) = Some (error_kind error)

-- a call that came to this was made after those before it, if they are known
abbrev pub Tells : Option (List Outcome) → Option (List Outcome) → Outcome → Type 0
Tells None new outcome = ⊤
Tells (Some before) new outcome = new ≡ Some (before ++ outcome ∷ [])

-- this number of calls that were interrupted
abbrev pub interrupted : ℕ → List Outcome
interrupted count = replicate count (Some Interrupted)

-- this number of calls were made, and each was interrupted
abbrev pub WereInterrupted : Option (List Outcome) → Option (List Outcome) → ℕ → Type 0
WereInterrupted None new count = ⊤
WereInterrupted (Some before) new count = new ≡ Some (before ++ interrupted count)

-- The calls that were made, if they are known: any number that were interrupted, and then one that came to this; that
-- one was interrupted only if it was the last of 2^64 - 1 calls.
abbrev pub AreMadeUntil : Option (List Outcome) → Option (List Outcome) → Outcome → Type 0
AreMadeUntil None new outcome = ⊤
AreMadeUntil (Some before) new outcome =
    (count : ℕ) × (new ≡ Some (before ++ (interrupted count ++ outcome ∷ [])))
    × (outcome ≡ Some Interrupted → count + 1 ≡ 2 ^ 64 - 1)
