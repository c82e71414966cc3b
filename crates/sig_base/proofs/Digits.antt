-- Decimal digits, told by a test of each letter or by the values that they mean.
use Rattle.std.proofs.Common.{◌≡◌, ◌<◌, ℕ, List, [], ◌∷◌, true, arith}
use Rattle.std.proofs.lemmas.Bool.{and_parts}
use Rattle.std.proofs.lemmas.Bool.Decides.{nat_tests}
use Rattle.std.specs.Char.{is_ascii_digit, digit_value}
use Rattle.std.specs.List.{list_all}
use Rattle.std.specs.Str.Parse.{AllDigits}

digit_means : (c : ℕ) → is_ascii_digit c ≡ true → digit_value c < 10
digit_means c is = grind (arith, nat_tests)

pub digits_mean : (ds : List ℕ) → list_all is_ascii_digit ds ≡ true → AllDigits 10 ds
digits_mean [] all = tt
digits_mean (d ∷ ds) all =
    let both = and_parts (is_ascii_digit d) (list_all is_ascii_digit ds) all in
    (digit_means d both.0, digits_mean ds both.1)
