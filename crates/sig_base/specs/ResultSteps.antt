-- Steps one after another, for `do`: the first that fails ends them.
use Rattle.std.specs.Prelude.{ℕ, ◌+◌, List, [], ◌∷◌, Result, Ok, Err}

infixl 10 ◌>>=◌
abbrev pub ◌>>=◌ : {A B E : Type 0} → Result A E → (A → Result B E) → Result B E
Ok x >>= next = next x
Err e >>= next = Err e

-- what a step gives for each element in turn, counted from this index on, or the error of the first that fails
abbrev pub each_from : {A B E : Type 0} → (ℕ → A → Result B E) → ℕ → List A → Result (List B) E
each_from step index [] = Ok []
each_from step index (x ∷ xs) = do
  y ← step index x
  ys ← each_from step (index + 1) xs
  Ok (y ∷ ys)
