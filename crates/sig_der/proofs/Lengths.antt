-- A length that is read is the length that was spelled, in the fewest bytes, and a spelled length is read again.
use Rattle.std.proofs.Common.{◌≡◌, ◌≢◌, ℕ, ◌+◌, ◌*◌, ◌/◌, ◌%◌, ◌^◌, ◌<◌, ◌≤◌, Bool, cond, ltb, eqb, List, [], ◌∷◌}
use Rattle.std.proofs.Common.{◌++◌, length, Result, Ok, Err, refl, sym, ap, subst, ◌∙◌, arith, inl, inr}
use Rattle.std.proofs.lemmas.Bool.{cases_lt, cases_Bool, lt-ltb, le-ltb, ltb-true, ltb-false, eqb-true, eqb-false}
use Rattle.std.proofs.lemmas.Bool.{ne_eqb, cond-true, cond-false}
use Rattle.sig_base.specs.declared.fault.DerError.{DerError}
use Rattle.sig_base.specs.declared.fault.DerError.TheVariants.{Length, Truncated}
use Rattle.sig_base.proofs.ResultSteps.{guard_ok, ok_is}
use Rattle.sig_der.specs.Element.{spelled_length}
use Rattle.sig_der.specs.Reading.{one_byte, two_bytes, three_bytes, four_bytes, length_at}
use Rattle.sig_der.proofs.Bytes.{IsBytes, IsBytes-tail}

-- ---- the five forms of a length

pub spelled_short : (n : ℕ) → n < 128 → spelled_length n ≡ n ∷ []
spelled_short n high = cond-true (ltb n 128) _ _ (lt-ltb n 128 high)

pub spelled_one : (n : ℕ) → 128 ≤ n → n < 256 → spelled_length n ≡ 129 ∷ n ∷ []
spelled_one n low high = cond-false (ltb n 128) _ _ (le-ltb n 128 low) ∙ cond-true (ltb n 256) _ _ (lt-ltb n 256 high)

pub spelled_two : (n : ℕ) → 256 ≤ n → n < 65536 → spelled_length n ≡ 130 ∷ (n / 256) ∷ (n % 256) ∷ []
spelled_two n low high =
    cond-false (ltb n 128) _ _ (le-ltb n 128 (omega arith)) ∙ cond-false (ltb n 256) _ _ (le-ltb n 256 low)
    ∙ cond-true (ltb n 65536) _ _ (lt-ltb n 65536 high)

pub spelled_three : (n : ℕ) → 65536 ≤ n → n < 16777216
    → spelled_length n ≡ 131 ∷ (n / 65536) ∷ (n / 256 % 256) ∷ (n % 256) ∷ []
spelled_three n low high =
    cond-false (ltb n 128) _ _ (le-ltb n 128 (omega arith)) ∙ cond-false (ltb n 256) _ _ (le-ltb n 256 (omega arith))
    ∙ cond-false (ltb n 65536) _ _ (le-ltb n 65536 low) ∙ cond-true (ltb n 16777216) _ _ (lt-ltb n 16777216 high)

pub spelled_four : (n : ℕ) → 16777216 ≤ n
    → spelled_length n ≡ 132 ∷ (n / 16777216) ∷ (n / 65536 % 256) ∷ (n / 256 % 256) ∷ (n % 256) ∷ []
spelled_four n low =
    cond-false (ltb n 128) _ _ (le-ltb n 128 (omega arith)) ∙ cond-false (ltb n 256) _ _ (le-ltb n 256 (omega arith))
    ∙ cond-false (ltb n 65536) _ _ (le-ltb n 65536 (omega arith))
    ∙ cond-false (ltb n 16777216) _ _ (le-ltb n 16777216 low)

-- ---- reading gives what is spelled

-- the text is the length's spelling and what follows it
pub record TakesLength (bytes : List ℕ) (y : ℕ × List ℕ) : Type 0 where
  pub parts : bytes ≡ spelled_length y.0 ++ y.1
  pub short : y.0 < 2 ^ 32

takes_length : (bytes : List ℕ) (x y : ℕ × List ℕ) → x ≡ y → TakesLength bytes x → TakesLength bytes y
takes_length bytes x y e t = subst (λ (w : ℕ × List ℕ). TakesLength bytes w) e t

-- bytes that end early stay so
stays_cut : {A : Type 0} {P : Type 0} (b : Bool) (y : A) → cond b (Err Length) (Err Truncated) ≡ Ok y → P
stays_cut b y e = absurd (let no = (guard_ok b Length (Err Truncated) y e).1 in cc)

one_at_takes : (bytes : List ℕ) → IsBytes bytes → (y : ℕ × List ℕ) → one_byte bytes ≡ Ok y
    → TakesLength (129 ∷ bytes) y
unfolding one_byte
one_at_takes [] fits y e = absurd cc
one_at_takes (a ∷ rest) fits y e =
    let g = guard_ok (ltb a 128) Length (Ok (a, rest)) y e in
    let high : a < 256 = fits 0 in
    takes_length _ _ y (ok_is _ y g.1) (record {
      parts = rw (spelled_one a (ltb-false a 128 g.0) high) refl;
      short = omega arith;
    })

two_at_takes : (bytes : List ℕ) → IsBytes bytes → (y : ℕ × List ℕ) → two_bytes bytes ≡ Ok y
    → TakesLength (130 ∷ bytes) y
unfolding two_bytes
two_at_takes [] fits y e = absurd cc
two_at_takes (a ∷ []) fits y e = stays_cut (eqb a 0) y e
two_at_takes (a ∷ b ∷ rest) fits y e =
    let g = guard_ok (eqb a 0) Length (Ok (a * 256 + b, rest)) y e in
    let n = a * 256 + b in
    let first : a < 256 = fits 0 in
    let second : b < 256 = fits 1 in
    let some : a ≢ 0 = eqb-false a 0 g.0 in
    let upper : n / 256 ≡ a = omega arith in
    let lower : n % 256 ≡ b = omega arith in
    takes_length _ _ y (ok_is _ y g.1) (record {
      parts = rw (spelled_two n (omega arith) (omega arith), upper, lower) refl;
      short = omega arith;
    })

three_at_takes : (bytes : List ℕ) → IsBytes bytes → (y : ℕ × List ℕ) → three_bytes bytes ≡ Ok y
    → TakesLength (131 ∷ bytes) y
unfolding three_bytes
three_at_takes [] fits y e = absurd cc
three_at_takes (a ∷ []) fits y e = stays_cut (eqb a 0) y e
three_at_takes (a ∷ b ∷ []) fits y e = stays_cut (eqb a 0) y e
three_at_takes (a ∷ b ∷ c ∷ rest) fits y e =
    let g = guard_ok (eqb a 0) Length (Ok (a * 65536 + b * 256 + c, rest)) y e in
    let n = a * 65536 + b * 256 + c in
    let first : a < 256 = fits 0 in
    let second : b < 256 = fits 1 in
    let third : c < 256 = fits 2 in
    let some : a ≢ 0 = eqb-false a 0 g.0 in
    let upper : n / 65536 ≡ a = omega arith in
    let middle : n / 256 % 256 ≡ b = omega arith in
    let lower : n % 256 ≡ c = omega arith in
    takes_length _ _ y (ok_is _ y g.1) (record {
      parts = rw (spelled_three n (omega arith) (omega arith), upper, middle, lower) refl;
      short = omega arith;
    })

four_at_takes : (bytes : List ℕ) → IsBytes bytes → (y : ℕ × List ℕ) → four_bytes bytes ≡ Ok y
    → TakesLength (132 ∷ bytes) y
unfolding four_bytes
four_at_takes [] fits y e = absurd cc
four_at_takes (a ∷ []) fits y e = stays_cut (eqb a 0) y e
four_at_takes (a ∷ b ∷ []) fits y e = stays_cut (eqb a 0) y e
four_at_takes (a ∷ b ∷ c ∷ []) fits y e = stays_cut (eqb a 0) y e
four_at_takes (a ∷ b ∷ c ∷ d ∷ rest) fits y e =
    let g = guard_ok (eqb a 0) Length (Ok (a * 16777216 + b * 65536 + c * 256 + d, rest)) y e in
    let n = a * 16777216 + b * 65536 + c * 256 + d in
    let first : a < 256 = fits 0 in
    let second : b < 256 = fits 1 in
    let third : c < 256 = fits 2 in
    let fourth : d < 256 = fits 3 in
    let some : a ≢ 0 = eqb-false a 0 g.0 in
    let one : n / 16777216 ≡ a = omega arith in
    let two : n / 65536 % 256 ≡ b = omega arith in
    let three : n / 256 % 256 ≡ c = omega arith in
    let four : n % 256 ≡ d = omega arith in
    takes_length _ _ y (ok_is _ y g.1) (record {
      parts = rw (spelled_four n (omega arith), one, two, three, four) refl;
      short = omega arith;
    })

-- which form the first byte begins
after_first : (first : ℕ) (rest : List ℕ) → IsBytes rest → (y : ℕ × List ℕ)
    → cond (eqb first 129) (one_byte rest)
    (cond (eqb first 130) (two_bytes rest)
    (cond (eqb first 131) (three_bytes rest) (cond (eqb first 132) (four_bytes rest) (Err Length)))) ≡ Ok y
    → TakesLength (first ∷ rest) y
after_first first rest fits y e =
    elim (cases_Bool (eqb first 129)) [
      | inl is ↦ rw (eqb-true first 129 is) (one_at_takes rest fits y (sym (cond-true (eqb first 129) _ _ is) ∙ e))
      | inr not129 ↦
          let e2 = sym (cond-false (eqb first 129) (one_byte rest) _ not129) ∙ e in
          elim (cases_Bool (eqb first 130)) [
            | inl is ↦
                rw (eqb-true first 130 is) (two_at_takes rest fits y (sym (cond-true (eqb first 130) _ _ is) ∙ e2))
            | inr not130 ↦
                let e3 = sym (cond-false (eqb first 130) (two_bytes rest) _ not130) ∙ e2 in
                elim (cases_Bool (eqb first 131)) [
                  | inl is ↦
                      rw (eqb-true first 131 is)
                      (three_at_takes rest fits y (sym (cond-true (eqb first 131) _ _ is) ∙ e3))
                  | inr not131 ↦
                      let e4 = sym (cond-false (eqb first 131) (three_bytes rest) _ not131) ∙ e3 in
                      elim (cases_Bool (eqb first 132)) [
                        | inl is ↦
                            rw (eqb-true first 132 is)
                            (four_at_takes rest fits y (sym (cond-true (eqb first 132) _ _ is) ∙ e4))
                        | inr not132 ↦
                            absurd (let no = sym (cond-false (eqb first 132) (four_bytes rest) (Err Length) not132)
                            ∙ e4 in cc)
                      ]
                ]
          ]
    ]

pub length_at_takes : (bytes : List ℕ) → IsBytes bytes → (y : ℕ × List ℕ) → length_at bytes ≡ Ok y
    → TakesLength bytes y
unfolding length_at
length_at_takes [] fits y e = absurd cc
length_at_takes (first ∷ rest) fits y e =
    elim (cases_Bool (ltb first 128)) [
      | inl is ↦
          let high : first < 128 = ltb-true first 128 is in
          takes_length _ _ y (ok_is _ y (sym (cond-true (ltb first 128) (Ok (first, rest)) _ is) ∙ e)) (record {
            parts = rw (spelled_short first high) refl;
            short = omega arith;
          })
      | inr not ↦
          after_first first rest (IsBytes-tail first rest fits) y
          (sym (cond-false (ltb first 128) (Ok (first, rest)) _ not) ∙ e)
    ]

-- ---- what is spelled is read

abbrev read_length : ℕ → List ℕ → Result (ℕ × List ℕ) DerError
read_length n rest = Ok (n, rest)

pub length_at_again : (n : ℕ) (rest : List ℕ) → n < 2 ^ 32 → length_at (spelled_length n ++ rest) ≡ Ok (n, rest)
unfolding length_at one_byte two_bytes three_bytes four_bytes
length_at_again n rest short =
    elim (cases_lt n 128) [
      | inl high ↦ rw (spelled_short n high) (cond-true (ltb n 128) _ _ (lt-ltb n 128 high))
      | inr from128 ↦ elim (cases_lt n 256) [
        | inl high ↦ rw (spelled_one n from128 high) (cond-false (ltb n 128) _ _ (le-ltb n 128 from128))
        | inr from256 ↦ elim (cases_lt n 65536) [
          | inl high ↦
              let some : n / 256 ≢ 0 = omega arith in
              let same : n / 256 * 256 + n % 256 ≡ n = omega arith in
              rw (spelled_two n from256 high)
              (cond-false (eqb (n / 256) 0) _ _ (ne_eqb _ _ some) ∙ ap (λ (m : ℕ). read_length m rest) same)
          | inr from65536 ↦ elim (cases_lt n 16777216) [
            | inl high ↦
                let some : n / 65536 ≢ 0 = omega arith in
                let same : n / 65536 * 65536 + n / 256 % 256 * 256 + n % 256 ≡ n = omega arith in
                rw (spelled_three n from65536 high)
                (cond-false (eqb (n / 65536) 0) _ _ (ne_eqb _ _ some) ∙ ap (λ (m : ℕ). read_length m rest) same)
            | inr from16777216 ↦
                let some : n / 16777216 ≢ 0 = omega arith in
                let same : n / 16777216 * 16777216 + n / 65536 % 256 * 65536 + n / 256 % 256 * 256 + n % 256 ≡ n =
                omega arith in
                rw (spelled_four n from16777216)
                (cond-false (eqb (n / 16777216) 0) _ _ (ne_eqb _ _ some) ∙ ap (λ (m : ℕ). read_length m rest) same)
          ]
        ]
      ]
    ]

-- ---- a length takes a byte at least

short_two : {A : Type 0} (b : Bool) (x y : A × List ℕ) (n : ℕ) → cond b (Err Length) (Ok x) ≡ Ok y → length x.1 < n
    → length y.1 < n
short_two {A = A} b x y n e less =
    subst (λ (w : A × List ℕ). length w.1 < n) (ok_is x y (guard_ok b Length (Ok x) y e).1) less

one_at_shorter : (bytes : List ℕ) (y : ℕ × List ℕ) → one_byte bytes ≡ Ok y → length y.1 < length bytes
unfolding one_byte
one_at_shorter [] y e = absurd cc
one_at_shorter (a ∷ rest) y e = short_two (ltb a 128) (a, rest) y _ e (omega arith)

two_at_shorter : (bytes : List ℕ) (y : ℕ × List ℕ) → two_bytes bytes ≡ Ok y → length y.1 < length bytes
unfolding two_bytes
two_at_shorter [] y e = absurd cc
two_at_shorter (a ∷ []) y e = stays_cut (eqb a 0) y e
two_at_shorter (a ∷ b ∷ rest) y e = short_two (eqb a 0) (a * 256 + b, rest) y _ e (omega arith)

three_at_shorter : (bytes : List ℕ) (y : ℕ × List ℕ) → three_bytes bytes ≡ Ok y → length y.1 < length bytes
unfolding three_bytes
three_at_shorter [] y e = absurd cc
three_at_shorter (a ∷ []) y e = stays_cut (eqb a 0) y e
three_at_shorter (a ∷ b ∷ []) y e = stays_cut (eqb a 0) y e
three_at_shorter (a ∷ b ∷ c ∷ rest) y e = short_two (eqb a 0) (a * 65536 + b * 256 + c, rest) y _ e (omega arith)

four_at_shorter : (bytes : List ℕ) (y : ℕ × List ℕ) → four_bytes bytes ≡ Ok y → length y.1 < length bytes
unfolding four_bytes
four_at_shorter [] y e = absurd cc
four_at_shorter (a ∷ []) y e = stays_cut (eqb a 0) y e
four_at_shorter (a ∷ b ∷ []) y e = stays_cut (eqb a 0) y e
four_at_shorter (a ∷ b ∷ c ∷ []) y e = stays_cut (eqb a 0) y e
four_at_shorter (a ∷ b ∷ c ∷ d ∷ rest) y e =
    short_two (eqb a 0) (a * 16777216 + b * 65536 + c * 256 + d, rest) y _ e (omega arith)

pub length_at_shorter : (bytes : List ℕ) (y : ℕ × List ℕ) → length_at bytes ≡ Ok y → length y.1 < length bytes
unfolding length_at
length_at_shorter [] y e = absurd cc
length_at_shorter (first ∷ rest) y e =
    elim (cases_Bool (ltb first 128)) [
      | inl is ↦
          subst (λ (w : ℕ × List ℕ). length w.1 < length (first ∷ rest))
          (ok_is _ y (sym (cond-true (ltb first 128) (Ok (first, rest)) _ is) ∙ e)) (omega arith)
      | inr not ↦
          let e1 = sym (cond-false (ltb first 128) (Ok (first, rest)) _ not) ∙ e in
          elim (cases_Bool (eqb first 129)) [
            | inl is ↦ let h = one_at_shorter rest y (sym (cond-true (eqb first 129) _ _ is) ∙ e1) in omega arith
            | inr not129 ↦
                let e2 = sym (cond-false (eqb first 129) (one_byte rest) _ not129) ∙ e1 in
                elim (cases_Bool (eqb first 130)) [
                  | inl is ↦ let h = two_at_shorter rest y (sym (cond-true (eqb first 130) _ _ is) ∙ e2) in omega arith
                  | inr not130 ↦
                      let e3 = sym (cond-false (eqb first 130) (two_bytes rest) _ not130) ∙ e2 in
                      elim (cases_Bool (eqb first 131)) [
                        | inl is ↦
                            let h =
                            three_at_shorter rest y (sym (cond-true (eqb first 131) _ _ is) ∙ e3) in omega arith
                        | inr not131 ↦
                            let e4 = sym (cond-false (eqb first 131) (three_bytes rest) _ not131) ∙ e3 in
                            elim (cases_Bool (eqb first 132)) [
                              | inl is ↦
                                  let h =
                                  four_at_shorter rest y (sym (cond-true (eqb first 132) _ _ is) ∙ e4) in omega arith
                              | inr not132 ↦
                                  absurd (let no = sym (cond-false (eqb first 132) (four_bytes rest)
                                  (Err Length) not132)
                                  ∙ e4 in cc)
                            ]
                      ]
                ]
          ]
    ]
