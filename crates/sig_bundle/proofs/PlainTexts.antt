-- Texts that JSON writes as they are: those of base64 and of hexadecimal digits.
use Rattle.std.proofs.Common.{◌≡◌, ℕ, ◌/◌, ◌%◌, ◌<◌, Bool, true, false}
use Rattle.std.proofs.Common.{◌&&◌, ◌==◌, nat_lt, not, List, [], ◌∷◌, ◌++◌}
use Rattle.std.proofs.Common.{slice_index, refl, ap, arith}
use Rattle.std.proofs.lemmas.Bool.{and_parts, and_from, ltb-true, ne_eqb, not-true}
use Rattle.std.proofs.lemmas.Bool.Decides.{nat_tests}
use Rattle.std.specs.List.{list_all, flat_map}
use Rattle.hex.specs.Hex.{encode_lower, encode_with, lower_digits}
use Rattle.sig_base.proofs.Base64Texts.{all_at, all_base64}
use Rattle.sig_base.specs.Base64.{base64_text}
use Rattle.sig_json_text.specs.Canonical.{canon_string, escape_of}
use Rattle.sig_base.specs.ByteLists.{AreBytes}

-- above the controls and the space, no quotation mark and no backslash
abbrev is_plain : ℕ → Bool
is_plain b = nat_lt 34 b && not (b == 92)

abbrev IsPlain : List ℕ → Type 0
IsPlain t = list_all is_plain t ≡ true

-- ---- a plain text is written as it is

plain_escape : (c : ℕ) → is_plain c ≡ true → escape_of c ≡ c ∷ []
plain_escape c plain =
    let both = and_parts (nat_lt 34 c) (not (c == 92)) plain in
    let high : 34 < c = ltb-true 34 c both.0 in
    rw (
      ne_eqb c 34 (λ e. omega arith),
      not-true (c == 92) both.1,
      ne_eqb c 8 (λ e. omega arith),
      ne_eqb c 12 (λ e. omega arith),
      ne_eqb c 10 (λ e. omega arith),
      ne_eqb c 13 (λ e. omega arith),
      ne_eqb c 9 (λ e. omega arith),
      above c high,
    ) refl where
      above : (c : ℕ) → 34 < c → nat_lt c 32 ≡ false
      above c high = grind (arith, nat_tests)

plain_escapes : (t : List ℕ) → IsPlain t → flat_map escape_of t ≡ t
plain_escapes [] plain = refl
plain_escapes (c ∷ t) plain =
    let both = and_parts (is_plain c) (list_all is_plain t) plain in
    rw (plain_escape c both.0, plain_escapes t both.1) refl

canon_plain : (t : List ℕ) → IsPlain t → canon_string t ≡ 34 ∷ (t ++ 34 ∷ [])
unfolding canon_string
canon_plain t plain = ap (λ s. 34 ∷ (s ++ 34 ∷ [])) (plain_escapes t plain)

-- ---- base64 (RFC 4648 section 4)

pub base64-plain : (m : List ℕ) → AreBytes m → canon_string (base64_text m) ≡ 34 ∷ (base64_text m ++ 34 ∷ [])
base64-plain m all = canon_plain _ (all_base64 is_plain refl refl m all)

-- ---- hexadecimal digits (RFC 4648 section 8)

digit : (i : ℕ) → i < 16 → is_plain (slice_index lower_digits i) ≡ true
digit i small = all_at is_plain lower_digits i refl small

digits : (m : List ℕ) → AreBytes m → IsPlain (encode_lower m)
unfolding encode_with
digits [] all = refl
digits (b ∷ m) all =
    and_from _ _ (digit (b / 16) (omega arith)) (and_from _ _ (digit (b % 16) (omega arith)) (digits m all.1))

pub hex-plain : (m : List ℕ) → AreBytes m → canon_string (encode_lower m) ≡ 34 ∷ (encode_lower m ++ 34 ∷ [])
hex-plain m all = canon_plain (encode_lower m) (digits m all)
