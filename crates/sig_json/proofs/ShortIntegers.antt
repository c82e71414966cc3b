-- A few digits write an integer below 2^64.
use Rattle.std.proofs.Common.{◌≡◌, ◌==◌, ◌<◌, ◌≤◌, ◌^◌, ℕ, List, [], ◌∷◌, ◌++◌, length, get_or, true, false}
use Rattle.std.proofs.Common.{refl, sym, ap, ◌∙◌, arith, append-nil}
use Rattle.std.proofs.Math.Nat.{pow-le-pow_right}
use Rattle.std.proofs.lemmas.Bool.{lt-ltb, ne_eqb}
use Rattle.std.proofs.lemmas.Float.Parse.{scan_numeral-text_of}
use Rattle.std.proofs.lemmas.Int.Digits.{digits_value-lt}
use Rattle.std.specs.Char.{is_ascii_digit}
use Rattle.std.specs.List.{list_all}
use Rattle.std.specs.Str.Parse.{AllDigits, digits_value}
use Rattle.fast_float.specs.Text.{Parts, scan}
use Rattle.serde_json.specs.Data.{unsigned}
use Rattle.serde_json.specs.Read.{number_of, number_from}
use Rattle.sig_base.proofs.Digits.{digits_mean}
use Rattle.sig_json.specs.Skipped.{IsNumber}

-- digits, and neither a point nor an exponent
abbrev parts_of : List ℕ → Parts
parts_of ds = record {
  whole = ds;
  point = false;
  fraction = [];
  exponent_negative = false;
  exponent = [];
  len = length ds;
}

scanned : (ds : List ℕ) → AllDigits 10 ds → scan ds ≡ parts_of ds
scanned ds digits =
    ap scan (sym (append-nil ds))
    ∙ scan_numeral-text_of (parts_of ds) (record {
      whole_digits = digits;
      fraction_digits = tt;
      exponent_digits = tt;
      no_point = λ none. refl;
      no_exponent = λ none. refl;
      len_is = ap length (sym (append-nil ds));
    })

below : (ds : List ℕ) → AllDigits 10 ds → length ds ≤ 19 → digits_value 10 (ds ++ []) < 2 ^ 64
below ds digits few = rw (append-nil ds)
    (omega (arith, digits_value-lt 10 ds digits, pow-le-pow_right {n = 10} (omega arith) few))

no_minus : (ds : List ℕ) → list_all is_ascii_digit ds ≡ true → (get_or ds 0 0 == 45) ≡ false
no_minus [] all = refl
no_minus (d ∷ ds) all = ne_eqb d 45 (λ is. cc)

pub whole_digits : (ds : List ℕ) → 0 < length ds → length ds ≤ 19 → list_all is_ascii_digit ds ≡ true → IsNumber false ds
unfolding number_of
whole_digits ds some few all =
    let digits = digits_mean ds all in
    let meant : number_of ds ≡ number_from false (scan ds) = rw (no_minus ds all) refl in
    record {
      value = unsigned (digits_value 10 (ds ++ []));
      is = meant ∙ ap (number_from false) (scanned ds digits)
          ∙ rw (lt-ltb 0 (length ds) some, lt-ltb _ (2 ^ 64) (below ds digits few)) refl;
      held = refl;
    }

pub one_digit : (ds : List ℕ) → length ds ≡ 1 → is_ascii_digit (get_or ds 0 0) ≡ true → IsNumber false ds
one_digit [] one is = absurd cc
one_digit (d ∷ []) one is = whole_digits (d ∷ []) (omega arith) (omega arith) (rw is refl)
one_digit (d ∷ e ∷ ds) one is = absurd (omega (arith, one))
