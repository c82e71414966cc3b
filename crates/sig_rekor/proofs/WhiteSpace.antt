-- What `trim` takes for white space is Unicode's, and a blank text is nothing else.
use Rattle.std.proofs.Common.{◌≡◌, ◌≢◌, ℕ, true, false, ◌&&◌, ◌==◌, nat_lt, List, [], ◌∷◌, length, refl}
use Rattle.std.proofs.Common.{sym, ◌∙◌, subst, inl, inr, arith, ◌↔◌, length-append}
use Rattle.std.proofs.lemmas.Bool.{cases_Bool, cases_eq, ne_eqb, eqb-true, ltb-true, and_parts, or_cases, false≢true}
use Rattle.std.proofs.lemmas.Str.{chars-encodes, scalars-chars, length-encode, len_utf8_bounds}
use Rattle.std.specs.Char.{is_whitespace, char_set_contains, encode_utf8}
use Rattle.std.specs.List.{list_all}
use Rattle.std.specs.Str.{IsUtf8, chars, all_scalars, encode_utf8_all, skip_leading_whitespace}
use Rattle.std.specs.Str.{drop_trailing_whitespace, trim_start, trim_end}
use Rattle.sig_rekor.specs.NoteText.{is_blank}
use Rattle.sig_rekor.specs.Characters.{white_space, is_white_space, MarksAreUnicode, LengthsAreStandard}

-- ---- the characters

listed : (cs : List ℕ) (c : ℕ) → list_all is_whitespace cs ≡ true → char_set_contains cs c ≡ true
    → is_whitespace c ≡ true
listed [] c all e = absurd (false≢true e)
listed (d ∷ cs) c all e =
    let both = and_parts (is_whitespace d) (list_all is_whitespace cs) all in
    elim (or_cases (d == c) (char_set_contains cs c) e) [
      | inl here ↦ subst (λ x. is_whitespace x ≡ true) (eqb-true d c here) both.0
      | inr later ↦ listed cs c both.1 later
    ]

white-listed : (c : ℕ) → is_white_space c ≡ true → is_whitespace c ≡ true
white-listed c e = listed white_space c refl e

-- one character, or another
one_or : (n c : ℕ) → is_white_space n ≡ true → (c ≢ n → is_white_space c ≡ true) → is_white_space c ≡ true
one_or n c known other = elim (cases_eq c n) [
  | inl same ↦ subst (λ x. is_white_space x ≡ true) (sym same) known
  | inr apart ↦ other apart
]

tab_to_return : (c : ℕ) → (nat_lt 8 c && nat_lt c 14) ≡ true → is_white_space c ≡ true
tab_to_return c e =
    let both = and_parts (nat_lt 8 c) (nat_lt c 14) e in
    let low = ltb-true 8 c both.0 in
    let high = ltb-true c 14 both.1 in
    one_or 9 c refl (λ a. one_or 10 c refl (λ b. one_or 11 c refl
    (λ d. one_or 12 c refl (λ f. one_or 13 c refl (λ g. absurd (omega arith))))))

quad_to_hair : (c : ℕ) → (nat_lt 8191 c && nat_lt c 8203) ≡ true → is_white_space c ≡ true
quad_to_hair c e =
    let both = and_parts (nat_lt 8191 c) (nat_lt c 8203) e in
    let low = ltb-true 8191 c both.0 in
    let high = ltb-true c 8203 both.1 in
    one_or 8192 c refl (λ a. one_or 8193 c refl (λ b. one_or 8194 c refl
    (λ d. one_or 8195 c refl (λ f. one_or 8196 c refl (λ g. one_or 8197 c refl
    (λ h. one_or 8198 c refl (λ i. one_or 8199 c refl
    (λ j. one_or 8200 c refl (λ k. one_or 8201 c refl
    (λ l. one_or 8202 c refl (λ m. absurd (omega arith))))))))))))

named : (n c : ℕ) → is_white_space n ≡ true → (c == n) ≡ true → is_white_space c ≡ true
named n c known e = subst (λ x. is_white_space x ≡ true) (sym (eqb-true c n e)) known

white-only : (c : ℕ) → is_whitespace c ≡ true → is_white_space c ≡ true
white-only c e = elim (or_cases _ (c == 12288) e) [
  | inr last ↦ named 12288 c refl last
  | inl a ↦ elim (or_cases _ (c == 8287) a) [
    | inr last ↦ named 8287 c refl last
    | inl b ↦ elim (or_cases _ (c == 8239) b) [
      | inr last ↦ named 8239 c refl last
      | inl d ↦ elim (or_cases _ (c == 8233) d) [
        | inr last ↦ named 8233 c refl last
        | inl f ↦ elim (or_cases _ (c == 8232) f) [
          | inr last ↦ named 8232 c refl last
          | inl g ↦ elim (or_cases _ (nat_lt 8191 c && nat_lt c 8203) g) [
            | inr last ↦ quad_to_hair c last
            | inl h ↦ elim (or_cases _ (c == 5760) h) [
              | inr last ↦ named 5760 c refl last
              | inl i ↦ elim (or_cases _ (c == 160) i) [
                | inr last ↦ named 160 c refl last
                | inl j ↦ elim (or_cases _ (c == 133) j) [
                  | inr last ↦ named 133 c refl last
                  | inl k ↦ elim (or_cases (nat_lt 8 c && nat_lt c 14) (c == 32) k) [
                    | inr last ↦ named 32 c refl last
                    | inl first ↦ tab_to_return c first
                  ]
                ]
              ]
            ]
          ]
        ]
      ]
    ]
  ]
]

pub white-points : (c : ℕ) → (is_whitespace c ≡ true) ↔ (is_white_space c ≡ true)
white-points c = (white-only c, white-listed c)

-- ---- texts

all_white : (cs : List ℕ) → list_all is_white_space cs ≡ true → skip_leading_whitespace cs ≡ []
all_white [] all = refl
all_white (c ∷ cs) all =
    let both = and_parts (is_white_space c) (list_all is_white_space cs) all in
    rw (white-listed c both.0) (all_white cs both.1)

nothing : (text : List ℕ) → skip_leading_whitespace (chars text) ≡ [] → is_blank text ≡ true
unfolding is_blank trim_start trim_end chars
nothing text e = rw e refl

-- a character that is none stays
first_dark : (cs : List ℕ) → all_scalars cs ≡ true → list_all is_white_space cs ≡ false
    → (c : ℕ) × (rest : List ℕ) × (skip_leading_whitespace cs ≡ c ∷ rest) × (is_whitespace c ≡ false)
    × (all_scalars (c ∷ rest) ≡ true)
first_dark [] scalar dark = absurd (false≢true (sym dark))
first_dark (c ∷ cs) scalar dark = elim (cases_Bool (is_whitespace c)) [
  | inl white ↦
      let both = and_parts _ (all_scalars cs) scalar in
      let deeper = first_dark cs both.1 (rw (white-only c white) at dark) in
      (deeper.0, deeper.1, rw white deeper.2, deeper.3, deeper.4)
  | inr is ↦ (c, cs, rw is refl, is, scalar)
]

kept : (c : ℕ) (rest : List ℕ) → is_whitespace c ≡ false
    → (length (encode_utf8_all (drop_trailing_whitespace (c ∷ rest))) == 0) ≡ false
kept c rest dark =
    rw dark (ne_eqb _ 0 (λ none. omega (
      arith,
      none,
      length-append (encode_utf8 c)
          (encode_utf8_all (drop_trailing_whitespace rest)),
      length-encode c,
      (len_utf8_bounds c).0,
    )))

something : (text : List ℕ) → IsUtf8 text → list_all is_white_space (chars text) ≡ false → is_blank text ≡ false
unfolding is_blank trim_start trim_end
something text utf8 dark =
    let first = first_dark (chars text) (scalars-chars text utf8) dark in
    rw (first.2, chars-encodes (first.0 ∷ first.1) first.4) (kept first.0 first.1 first.3)

pub blank-texts : (text : List ℕ) → IsUtf8 text
    → (is_blank text ≡ true) ↔ (list_all is_white_space (chars text) ≡ true)
blank-texts text utf8 = (only, λ all. nothing text (all_white (chars text) all)) where
  only : is_blank text ≡ true → list_all is_white_space (chars text) ≡ true
  only blank = elim (cases_Bool (list_all is_white_space (chars text))) [
    | inl all ↦ all
    | inr dark ↦ absurd (false≢true (sym (something text utf8 dark) ∙ blank))
  ]

-- ---- the marks

pub marks : MarksAreUnicode
unfolding encode_utf8
marks =
    record {
      line = refl;
      trimmed_line = refl;
      empty = refl;
      between = refl;
      word = refl;
      quote = refl;
      dash = refl;
      dash_bytes = refl;
    }

pub lengths : LengthsAreStandard
lengths = record { hash = refl; fingerprint = refl }
