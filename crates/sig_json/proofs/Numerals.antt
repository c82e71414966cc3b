-- Integers of texts and of values, as the code reads them.
use Rattle.std.proofs.Common.{◌≡◌, ◌==◌, ℕ, zero, suc, ◌<◌, ◌≤◌, ◌^◌, ◌⊎◌, inl, inr, ℤ, pos, negsuc, neg_ℤ, List, []}
use Rattle.std.proofs.Common.{◌∷◌, length, get_or, Option, Some, None, option_map, Result, Ok, Err, true, false, refl}
use Rattle.std.proofs.Common.{sym, ap, arith, rules}
use Rattle.std.proofs.lemmas.Bool.{lt-ltb, le-ltb, eqb-true, eqb-false, ne_eqb, cases_eq, cases_lt, cases_Bool}
use Rattle.std.proofs.lemmas.Int.{ints}
use Rattle.std.proofs.lemmas.Str.Pattern.{strip_prefix_char}
use Rattle.std.proofs.lemmas.Str.Parse.{IsNumeralModel, numerals_by_fold, parse_plain, parse_signed_plain}
use Rattle.std.proofs.lemmas.Str.Parse.{parse_signed_minus}
use Rattle.std.specs.Char.{is_ascii_digit}
use Rattle.std.specs.Int.{w64, FitsUnsigned}
use Rattle.std.specs.Prelude.{FitsSigned, unsigned_abs}
use Rattle.std.specs.List.{list_all}
use Rattle.std.specs.Option.{option_and_then}
use Rattle.std.specs.Result.{result_ok, OkIff}
use Rattle.std.specs.Str.Parse.{ParsesUnsigned, ParsesSigned}
use Rattle.serde_json.specs.Data.{Data, null, boolean, number, string, array, object}
use Rattle.std.specs.Str.Pattern.{FindsCharPrefix}
use Rattle.serde_json.specs.Find.{as_number, as_integer, as_str}
use Rattle.sig_json.specs.Integer.{value_after, natural_text, integer_text, integer_of, in_u64, in_i64}
use Rattle.sig_json.specs.Numerals.{below_word}

abbrev IsDigits : List ℕ → Type 0
IsDigits ds = list_all is_ascii_digit ds ≡ true

pub digits_model : IsNumeralModel (λ ds. list_all is_ascii_digit ds ≡ true) (value_after 0)
digits_model = numerals_by_fold _ (search rules) value_after (search rules)

-- one digit or more, or nothing: the two cases of a text
natural_text-cases : (text : List ℕ)
    → ((natural_text text ≡ Some (value_after 0 text)) × (IsDigits text × (0 < length text))) ⊎
    ((natural_text text ≡ None) × (IsDigits text × (0 < length text) → ⊥))
unfolding natural_text
natural_text-cases text =
    elim (cases_Bool (list_all is_ascii_digit text)) [
      | inr other ↦ inr (rw other refl, λ h. cc)
      | inl digits ↦ elim (cases_lt 0 (length text)) [
        | inl longer ↦ inl (rw (digits, lt-ltb 0 (length text) longer) refl, (digits, longer))
        | inr empty ↦ inr (rw (digits, le-ltb 0 (length text) empty) refl, λ h. omega arith)
      ]
    ]

-- a text that begins with `+`
natural_text-plus : (text : List ℕ) → (get_or text 0 0 == 43) ≡ true → natural_text text ≡ None
unfolding natural_text
natural_text-plus [] e = refl
natural_text-plus (c ∷ cs) e = let same : c ≡ 43 = eqb-true c 43 e in rw same refl

integer_text-plus : (text : List ℕ) → (get_or text 0 0 == 43) ≡ true → integer_text text ≡ None
unfolding integer_text
integer_text-plus [] e = refl
integer_text-plus (c ∷ cs) e =
    let same : c ≡ 43 = eqb-true c 43 e in rw (same, natural_text-plus (43 ∷ cs) refl) refl

pub naturals_plus : (text : List ℕ) → (get_or text 0 0 == 43) ≡ true
    → None ≡ option_and_then below_word (natural_text text)
naturals_plus text e = rw (natural_text-plus text e) refl

-- three premises in two groups
regroup : {T E : Type 0} → (A B C : Type 0) (v : T) (r : Result T E) → OkIff r (A × B × C) v → OkIff r ((A × B) × C) v
regroup A B C v (Ok x) h = (((h.0.0, h.0.1), h.0.2), h.1)
regroup A B C v (Err e) h = λ p. h (p.0.0, p.0.1, p.1)

-- what `parse` answers without a plus sign, in both forms of the text
below : {E : Type 0} → (n : ℕ) (found : Option ℕ) (P : Type 0) → ((found ≡ Some n) × P) ⊎ ((found ≡ None) × (P → ⊥))
    → (r : Result ℕ E) → OkIff r (P × (n < 2 ^ 64)) n → result_ok r ≡ option_and_then below_word found
below n found P (inl there) (Ok x) h = let fits : n < 2 ^ 64 = h.0.1 in rw (there.0, lt-ltb n (2 ^ 64) fits, h.1) refl
below n found P (inl there) (Err e) h =
    elim (cases_lt n (2 ^ 64)) [
      | inl fits ↦ absurd (h (there.1, fits))
      | inr large ↦ rw (there.0, le-ltb n (2 ^ 64) large) refl
    ]
below n found P (inr gone) (Ok x) h = absurd (gone.1 h.0.0)
below n found P (inr gone) (Err e) h = rw gone.0 refl

pub naturals_parsed : {E : Type 0} → (text : List ℕ) (r : Result ℕ E) → (get_or text 0 0 == 43) ≡ false
    → ParsesUnsigned 64 10 text r → result_ok r ≡ option_and_then below_word (natural_text text)
naturals_parsed text r e h =
    below (value_after 0 text) (natural_text text) (IsDigits text × (0 < length text)) (natural_text-cases text) r
    (regroup _ _ _ _ r (parse_plain digits_model 64 text r h (eqb-false (get_or text 0 0) 43 e)))

pub ruleset naturals = (naturals_plus, naturals_parsed)

-- ---- a text of an optional `-` and digits

integer_text-minus : (text digits : List ℕ) → text ≡ 45 ∷ digits
    → integer_text text ≡ option_map (λ n. neg_ℤ (pos n)) (natural_text digits)
unfolding integer_text
integer_text-minus text digits e = rw e refl

integer_text-plain : (text : List ℕ) → ((digits : List ℕ) → text ≡ 45 ∷ digits → ⊥)
    → integer_text text ≡ option_map pos (natural_text text)
unfolding integer_text natural_text
integer_text-plain [] other = refl
integer_text-plain (c ∷ cs) other =
    let differs : (c == 45) ≡ false = ne_eqb c 45 (λ e. other cs (ap (λ x. x ∷ cs) e)) in rw differs refl

negative_zero : (found : Option ℕ) → Some 0 ≡ option_and_then below_word found
    → Some 0 ≡ option_and_then in_u64 (option_map (λ n. neg_ℤ (pos n)) found)
negative_zero None e = cc
negative_zero (Some zero) e = refl
negative_zero (Some (suc n)) e =
    elim (cases_lt (suc n) (2 ^ 64)) [
      | inl fits ↦ absurd (let same = rw (lt-ltb (suc n) (2 ^ 64) fits) at e in cc)
      | inr large ↦ absurd (let same = rw (le-ltb (suc n) (2 ^ 64) large) at e in cc)
    ]

negative_other : (found : Option ℕ) → (Some 0 ≡ option_and_then below_word found → ⊥)
    → None ≡ option_and_then in_u64 (option_map (λ n. neg_ℤ (pos n)) found)
negative_other None other = refl
negative_other (Some zero) other = absurd (other refl)
negative_other (Some (suc n)) other = refl

plain_unsigned : (found : Option ℕ) → option_and_then below_word found ≡ option_and_then in_u64 (option_map pos found)
plain_unsigned None = refl
plain_unsigned (Some n) = refl

pub unsigned_zero : (text digits : List ℕ) → text ≡ 45 ∷ digits
    → Some 0 ≡ option_and_then below_word (natural_text digits) → Some 0 ≡ option_and_then in_u64 (integer_text text)
unsigned_zero text digits e none = rw (integer_text-minus text digits e) (negative_zero (natural_text digits) none)

pub unsigned_other : (text digits : List ℕ) → text ≡ 45 ∷ digits
    → (Some 0 ≡ option_and_then below_word (natural_text digits) → ⊥)
    → None ≡ option_and_then in_u64 (integer_text text)
unsigned_other text digits e other = rw (integer_text-minus text digits e) (negative_other (natural_text digits) other)

pub unsigned_plain : (text : List ℕ) → FindsCharPrefix 45 text None
    → option_and_then below_word (natural_text text) ≡ option_and_then in_u64 (integer_text text)
unfolding lib.Utf8.encode
unsigned_plain text other = rw (integer_text-plain text other) (plain_unsigned (natural_text text))

pub ruleset unsigned_texts = (unsigned_zero, unsigned_other, unsigned_plain, strip_prefix_char)

pub signed_plus : (text : List ℕ) → (get_or text 0 0 == 43) ≡ true → None ≡ option_and_then in_i64 (integer_text text)
signed_plus text e = rw (integer_text-plus text e) refl

-- the number with its sign where it fits
signed_below : {E : Type 0} → (n : ℕ) (found : Option ℕ) (P : Type 0)
    → ((found ≡ Some n) × P) ⊎ ((found ≡ None) × (P → ⊥)) → (r : Result ℤ E) → OkIff r (P × (n < 2 ^ 63)) (pos n)
    → result_ok r ≡ option_and_then in_i64 (option_map pos found)
signed_below n found P (inl there) (Ok x) h =
    let fits : n < 2 ^ 63 = h.0.1 in rw (there.0, lt-ltb n (2 ^ 63) fits, h.1) refl
signed_below n found P (inl there) (Err e) h =
    elim (cases_lt n (2 ^ 63)) [
      | inl fits ↦ absurd (h (there.1, fits))
      | inr large ↦ rw (there.0, le-ltb n (2 ^ 63) large) refl
    ]
signed_below n found P (inr gone) (Ok x) h = absurd (gone.1 h.0.0)
signed_below n found P (inr gone) (Err e) h = rw gone.0 refl

in_i64-minus : (n : ℕ) → n ≤ 2 ^ 63 → in_i64 (neg_ℤ (pos n)) ≡ Some (neg_ℤ (pos n))
in_i64-minus zero h = refl
in_i64-minus (suc n) h = let fits : n < 2 ^ 63 = omega arith in rw (lt-ltb n (2 ^ 63) fits) refl

in_i64-beyond : (n : ℕ) → 2 ^ 63 < n → in_i64 (neg_ℤ (pos n)) ≡ None
in_i64-beyond zero h = absurd (omega arith)
in_i64-beyond (suc n) h = let large : 2 ^ 63 ≤ n = omega arith in rw (le-ltb n (2 ^ 63) large) refl

signed_above : {E : Type 0} → (n : ℕ) (found : Option ℕ) (P : Type 0)
    → ((found ≡ Some n) × P) ⊎ ((found ≡ None) × (P → ⊥)) → (r : Result ℤ E)
    → OkIff r (P × (n ≤ 2 ^ 63)) (neg_ℤ (pos n))
    → result_ok r ≡ option_and_then in_i64 (option_map (λ n. neg_ℤ (pos n)) found)
signed_above n found P (inl there) (Ok x) h =
    let fits : n ≤ 2 ^ 63 = h.0.1 in rw (there.0, in_i64-minus n fits, h.1) refl
signed_above n found P (inl there) (Err e) h =
    elim (cases_lt (2 ^ 63) n) [
      | inl large ↦ rw (there.0, in_i64-beyond n large) refl
      | inr fits ↦ absurd (h (there.1, fits))
    ]
signed_above n found P (inr gone) (Ok x) h = absurd (gone.1 h.0.0)
signed_above n found P (inr gone) (Err e) h = rw gone.0 refl

signed_of_minus : {E : Type 0} → (text digits : List ℕ) (r : Result ℤ E) → text ≡ 45 ∷ digits
    → ParsesSigned w64 10 text r → result_ok r ≡ option_and_then in_i64 (integer_text text)
signed_of_minus text digits r e h =
    rw (integer_text-minus text digits e)
    (signed_above (value_after 0 digits) (natural_text digits) (IsDigits digits × (0 < length digits))
    (natural_text-cases digits) r
    (regroup _ _ _ _ r (parse_signed_minus digits_model w64 (45 ∷ digits) r (rw e at h) refl)))

signed_of_plain : {E : Type 0} → (text : List ℕ) (r : Result ℤ E) → (get_or text 0 0 ≡ 43 → ⊥)
    → (get_or text 0 0 ≡ 45 → ⊥) → ((digits : List ℕ) → text ≡ 45 ∷ digits → ⊥) → ParsesSigned w64 10 text r
    → result_ok r ≡ option_and_then in_i64 (integer_text text)
signed_of_plain text r plus minus other h =
    rw (integer_text-plain text other)
    (signed_below (value_after 0 text) (natural_text text) (IsDigits text × (0 < length text))
    (natural_text-cases text) r (regroup _ _ _ _ r (parse_signed_plain digits_model w64 text r h plus minus)))

pub signed_parsed : {E : Type 0} → (text : List ℕ) (r : Result ℤ E) → (get_or text 0 0 == 43) ≡ false
    → ParsesSigned w64 10 text r → result_ok r ≡ option_and_then in_i64 (integer_text text)
signed_parsed [] r e h = signed_of_plain [] r (eqb-false 0 43 e) (λ z. cc) (λ ds z. cc) h
signed_parsed (c ∷ cs) r e h =
    elim (cases_eq c 45) [
      | inl minus ↦ signed_of_minus (c ∷ cs) cs r (ap (λ x. x ∷ cs) minus) h
      | inr other ↦ signed_of_plain (c ∷ cs) r (eqb-false c 43 e) other (λ ds z. other (cc)) h
    ]

pub ruleset signed_texts = (signed_plus, signed_parsed)

-- ---- a value

pub integer_of-number : (d : Data) (z : ℤ) → Some z ≡ option_and_then as_integer (as_number d) → integer_of d ≡ Some z
integer_of-number null z e = cc
integer_of-number (boolean b) z e = cc
integer_of-number (number n) z e = sym e
integer_of-number (string s) z e = cc
integer_of-number (array ds) z e = cc
integer_of-number (object ms) z e = cc

-- no number: a text, or nothing
pub integer_of-text : (d : Data) → None ≡ option_and_then as_integer (as_number d)
    → integer_of d ≡ option_and_then integer_text (as_str d)
integer_of-text null e = refl
integer_of-text (boolean b) e = refl
integer_of-text (number n) e = sym e
integer_of-text (string s) e = refl
integer_of-text (array ds) e = refl
integer_of-text (object ms) e = refl

-- what the conversions from 128 bits answer
pub in_u64-converted : {E : Type 0} → (z : ℤ) (r : Result ℕ E) → OkIff r (FitsUnsigned w64 z) (unsigned_abs z)
    → result_ok r ≡ in_u64 z
in_u64-converted (pos n) (Ok x) h =
    let fits : n < 2 ^ 64 = omega (arith, ints) in rw (lt-ltb n (2 ^ 64) fits, h.1) refl
in_u64-converted (pos n) (Err e) h =
    elim (cases_lt n (2 ^ 64)) [
      | inl fits ↦ absurd (h (omega (arith, ints), omega (arith, ints)))
      | inr large ↦ rw (le-ltb n (2 ^ 64) large) refl
    ]
in_u64-converted (negsuc n) (Ok x) h = absurd (omega (arith, ints))
in_u64-converted (negsuc n) (Err e) h = refl

pub in_i64-converted : {E : Type 0} → (z : ℤ) (r : Result ℤ E) → OkIff r (FitsSigned w64 z) z → result_ok r ≡ in_i64 z
in_i64-converted (pos n) (Ok x) h =
    let fits : n < 2 ^ 63 = omega (arith, ints) in rw (lt-ltb n (2 ^ 63) fits, h.1) refl
in_i64-converted (pos n) (Err e) h =
    elim (cases_lt n (2 ^ 63)) [
      | inl fits ↦ absurd (h (omega (arith, ints)))
      | inr large ↦ rw (le-ltb n (2 ^ 63) large) refl
    ]
in_i64-converted (negsuc n) (Ok x) h =
    let fits : n < 2 ^ 63 = omega (arith, ints) in rw (lt-ltb n (2 ^ 63) fits, h.1) refl
in_i64-converted (negsuc n) (Err e) h =
    elim (cases_lt n (2 ^ 63)) [
      | inl fits ↦ absurd (h (omega (arith, ints)))
      | inr large ↦ rw (le-ltb n (2 ^ 63) large) refl
    ]

pub ruleset values = (integer_of-number, integer_of-text, in_u64-converted, in_i64-converted)
