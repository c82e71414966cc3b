-- The words that `main` replies to itself.
use Rattle.std.specs.Prelude.{◌≡◌, ℕ, List, [], ◌∷◌, codes}

-- the words are the one word `--help`, or the one word `--version`
abbrev pub AsksHelp : List (List ℕ) → Type 0
AsksHelp words = words ≡ codes "--help" ∷ []

abbrev pub AsksVersion : List (List ℕ) → Type 0
AsksVersion words = words ≡ codes "--version" ∷ []
