-- A text that is the texts of like parts, one after another.
use Rattle.std.specs.Prelude.{◌≡◌, ℕ, List, [], ◌∷◌, ◌++◌}
use Rattle.std.specs.List.{AllByRecursion}

abbrev pub joined : {A : Type 0} → (A → List ℕ) → List A → List ℕ
joined text [] = []
joined text (x ∷ xs) = text x ++ joined text xs

-- each part is as it must be, and their texts make the whole text
pub record AreJoined {A : Type 0} (Is : A → Type 0) (text : A → List ℕ) (bytes : List ℕ) (xs : List A) : Type 0 where
  pub each : AllByRecursion Is xs
  pub parts : bytes ≡ joined text xs
