-- Texts of graphic ASCII characters: decimals and base64. They hold no white space, and none is trimmed off.
use Rattle.std.proofs.Common.{◌≡◌, ◌≢◌, ℕ, zero, suc, ◌<◌, ◌≤◌, ◌^◌, Bool, true, false, ◌&&◌}
use Rattle.std.proofs.Common.{nat_lt, List, [], ◌∷◌, refl, sym, ◌∙◌, ap}
use Rattle.std.proofs.Common.{subst, arith, Ok, Some}
use Rattle.std.proofs.lemmas.Bool.{and_parts, and_from, lt-ltb, ltb-true, ne_eqb}
use Rattle.std.proofs.lemmas.Bool.Decides.{nat_tests}
use Rattle.std.proofs.lemmas.Str.{chars-IsAscii, encodes-IsAscii}
use Rattle.std.proofs.lemmas.Fmt.{decimal_is_IsNumeral}
use Rattle.std.specs.Result.{result_ok}
use Rattle.std.specs.Fmt.{decimal}
use Rattle.std.specs.Char.{digit_value, is_whitespace}
use Rattle.std.specs.List.{list_all, AllByRecursion}
use Rattle.std.specs.Str.{IsAscii, trim_end, drop_trailing_whitespace, encode_utf8_all}
use Rattle.std.specs.Str.Parse.{AllDigits, IsNumeral, digits_value, without_leading_plus}
use Rattle.base64.specs.GeneralPurpose.{IsBytes}
use Rattle.base64.specs.Engines.{standard}
use Rattle.base64.proofs.EngineFacts.{decode_of-encode_of}
use Rattle.sig_base.proofs.Base64Texts.{all_base64}
use Rattle.sig_base.proofs.ByteLists.{each_byte}
use Rattle.sig_base.specs.Base64.{base64_text, base64_bytes}
use Rattle.sig_rekor.specs.NoteText.{tree_size_of}
use Rattle.sig_rekor.proofs.Notes.{tree_size_of-numeral}

-- `!` to `~`
abbrev pub is_graphic : ℕ → Bool
is_graphic b = nat_lt 32 b && nat_lt b 127

abbrev pub IsGraphic : List ℕ → Type 0
IsGraphic t = list_all is_graphic t ≡ true

graphic_byte : (b : ℕ) → is_graphic b ≡ true → (32 < b) × (b < 127)
graphic_byte b g =
    let both = and_parts (nat_lt 32 b) (nat_lt b 127) g in
    (ltb-true 32 b both.0, ltb-true b 127 both.1)

byte_graphic : (b : ℕ) → 32 < b → b < 127 → is_graphic b ≡ true
byte_graphic b low high = and_from (nat_lt 32 b) (nat_lt b 127) (lt-ltb 32 b low) (lt-ltb b 127 high)

-- without a byte
abbrev pub IsFreeOf : ℕ → List ℕ → Type 0
IsFreeOf s t = AllByRecursion (λ b. b ≢ s) t

pub graphic-free : (s : ℕ) (t : List ℕ) → s ≤ 32 → IsGraphic t → IsFreeOf s t
graphic-free s [] low g = tt
graphic-free s (b ∷ t) low g =
    let both = and_parts (is_graphic b) (list_all is_graphic t) g in
    let here = graphic_byte b both.0 in
    (λ same. omega arith, graphic-free s t low both.1)

-- decimals
digits_graphic : (ds : List ℕ) → AllDigits 10 ds → IsGraphic ds
digits_graphic [] all = refl
digits_graphic (d ∷ ds) all =
    let range : (47 < d) × (d < 58) = digit_range d all.0 in
    and_from (is_graphic d) (list_all is_graphic ds) (byte_graphic d (omega arith) (omega arith))
    (digits_graphic ds all.1) where
      digit_range : (d : ℕ) → digit_value d < 10 → (47 < d) × (d < 58)
      digit_range d small = (grind (arith, nat_tests), grind (arith, nat_tests))

pub decimal-graphic : (n : ℕ) → n < 2 ^ 64 → IsGraphic (decimal n)
decimal-graphic n small = digits_graphic (decimal n) (decimal_is_IsNumeral n small).0.1

no_plus : (ds : List ℕ) → IsNumeral 10 ds → without_leading_plus ds ≡ ds
no_plus [] is = refl
no_plus (d ∷ ds) is = rw (ne_eqb d 43 (plus d is.1.0)) refl where
  plus : (d : ℕ) → digit_value d < 10 → d ≢ 43
  plus d small same = let f = subst (λ x. digit_value x < 10) same small in omega arith

pub tree_size_of-decimal : (n : ℕ) → n < 2 ^ 64 → tree_size_of (decimal n) ≡ Ok n
tree_size_of-decimal n small =
    let is = decimal_is_IsNumeral n small in
    let plain = no_plus (decimal n) is.0 in
    tree_size_of-numeral (decimal n) n (subst (λ t. IsNumeral 10 t × (digits_value 10 t < 2 ^ 64)) (sym plain)
    (is.0, subst (λ v. v < 2 ^ 64) (sym is.1) small)) (sym is.1 ∙ ap (digits_value 10) (sym plain))

-- base64
pub base64-graphic : (m : List ℕ) → IsBytes m → IsGraphic (base64_text m)
base64-graphic m all = all_base64 is_graphic refl refl m (each_byte m all)

pub base64-again : (m : List ℕ) → IsBytes m → base64_bytes (base64_text m) ≡ Some m
unfolding base64_text base64_bytes
base64-again m all = ap result_ok (decode_of-encode_of standard m refl all)

-- nothing is trimmed off
no_trailing : (t : List ℕ) → IsGraphic t → drop_trailing_whitespace t ≡ t
no_trailing [] g = refl
no_trailing (b ∷ t) g =
    let both = and_parts (is_graphic b) (list_all is_graphic t) g in
    let here = graphic_byte b both.0 in
    rw (kept b here.0 here.1, no_trailing t both.1) refl where
      kept : (b : ℕ) → 32 < b → b < 127 → is_whitespace b ≡ false
      kept b low high = grind (arith, nat_tests)

graphic-ascii : (t : List ℕ) → IsGraphic t → IsAscii t
graphic-ascii [] g i = omega arith
graphic-ascii (b ∷ t) g zero = omega (arith, (graphic_byte b (and_parts (is_graphic b) (list_all is_graphic t) g).0).1)
graphic-ascii (b ∷ t) g (suc i) = graphic-ascii t (and_parts (is_graphic b) (list_all is_graphic t) g).1 i

pub trim_end-graphic : (t : List ℕ) → IsGraphic t → trim_end t ≡ t
unfolding trim_end
trim_end-graphic t g =
    ap (λ cs. encode_utf8_all (drop_trailing_whitespace cs)) (chars-IsAscii t (graphic-ascii t g))
    ∙ ap encode_utf8_all (no_trailing t g) ∙ encodes-IsAscii t (graphic-ascii t g)
