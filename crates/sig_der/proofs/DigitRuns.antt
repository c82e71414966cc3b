-- A run of digits, digit by digit.
use Rattle.std.proofs.Common.{◌≡◌, ℕ, zero, suc, ◌+◌, add-one, ◌≤◌, true, List, [], ◌∷◌, ◌++◌, length, refl, sym, ap}
use Rattle.std.proofs.Common.{◌∙◌, arith, inl, inr}
use Rattle.std.specs.List.{AllByRecursion}
use Rattle.std.proofs.lemmas.Bool.{cases_Bool, cond-true, cond-false, lt-ltb, and_from}
use Rattle.sig_der.specs.Digits.{is_digit}
use Rattle.sig_der.specs.Stamp.{after_digit, after_digits}

pub is_digit-within : (b : ℕ) → 48 ≤ b → b ≤ 57 → is_digit b ≡ true
is_digit-within b low high = and_from _ _ (lt-ltb 47 b (omega arith)) (lt-ltb b 58 (omega arith))

pub after_digits_more : (n k : ℕ) (text : List ℕ) → n ≡ k + 1 → after_digits n text ≡ after_digits k (after_digit text)
unfolding after_digits
after_digits_more n k text is = rw (is, add-one) refl

pub after_digits_none : (n : ℕ) (text : List ℕ) → n ≡ 0 → after_digits n text ≡ text
unfolding after_digits
after_digits_none n text is = rw is refl

-- ---- the digits that are skipped

pub record IsRun (most : ℕ) (digits text rest : List ℕ) : Type 0 where
  pub each : AllByRecursion (λ b. is_digit b ≡ true) digits
  pub parts : text ≡ digits ++ rest
  pub bound : length digits ≤ most

pub run_takes : (most : ℕ) (text : List ℕ) → (digits : List ℕ) × IsRun most digits text (after_digits most text)
unfolding after_digits
run_takes zero text = ([], record { each = tt; parts = refl; bound = omega arith })
run_takes (suc most) [] =
    let h = run_takes most [] in
    (h.0, record { each = h.1.each; parts = h.1.parts; bound = omega (arith, h.1.bound) })
run_takes (suc most) (b ∷ text) =
    elim (cases_Bool (is_digit b)) [
      | inl digit ↦
          let h = run_takes most text in
          let skipped : after_digit (b ∷ text) ≡ text = cond-true (is_digit b) _ _ digit in (
            b ∷ h.0,
            record {
              each = (digit, h.1.each);
              parts =
                  ap (λ (w : List ℕ). b ∷ w)
                  (h.1.parts ∙ ap (λ (w : List ℕ). h.0 ++ after_digits most w) (sym skipped));
              bound = omega (arith, h.1.bound);
            },
          )
      | inr other ↦
          let h = run_takes most (b ∷ text) in
          let kept : after_digit (b ∷ text) ≡ b ∷ text = cond-false (is_digit b) _ _ other in (
            h.0,
            record {
              each = h.1.each;
              parts = h.1.parts ∙ ap (λ (w : List ℕ). h.0 ++ after_digits most w) (sym kept);
              bound = omega (arith, h.1.bound);
            },
          )
    ]

pub run_again : (most : ℕ) (digits rest : List ℕ) → AllByRecursion (λ b. is_digit b ≡ true) digits
    → length digits ≤ most → after_digit rest ≡ rest
    → after_digits most (digits ++ rest) ≡ rest
unfolding after_digits
run_again zero [] rest each bound ends = refl
run_again zero (d ∷ digits) rest each bound ends = absurd (omega arith)
run_again (suc most) [] rest each bound ends =
    ap (λ (w : List ℕ). after_digits most w) ends ∙ run_again most [] rest tt (omega arith) ends
run_again (suc most) (d ∷ digits) rest each bound ends =
    ap (λ (w : List ℕ). after_digits most w) (cond-true (is_digit d) (digits ++ rest) (d ∷ (digits ++ rest)) each.0)
    ∙ run_again most digits rest each.1 (omega arith) ends
