-- A set of texts, in which each is found without going over the others.
use Rattle.std.specs.Prelude.{ℕ, List, Bool}
use Rattle.std.specs.Borrow.{Bor}
use Rattle.std.specs.Str.{bytes_eq}
use Rattle.std.specs.List.{list_any}

-- the text is one of these
abbrev pub has_text : List (Bor (List ℕ)) → List ℕ → Bool
has_text texts text = list_any (λ t. bytes_eq t.now text) texts
