-- Digits that are read are those that are written, and written ones are read again.
use Rattle.std.proofs.Common.{◌≡◌, ℕ, ◌+◌, ◌-◌, ◌*◌, ◌/◌, ◌%◌, ◌<◌, ◌≤◌, true, ltb, eqb, ◌&&◌, List, [], ◌∷◌, ◌++◌}
use Rattle.std.proofs.Common.{Option, Some, None, refl, sym, ap, subst, ◌∙◌, append_assoc, arith}
use Rattle.std.proofs.lemmas.Bool.{ltb-true, eq-eqb, eqb-true, and_parts, and_from, cond-true}
use Rattle.sig_base.proofs.OptionSteps.{bind_is, bind_of_some, when_is, some_is}
use Rattle.sig_der.specs.Digits.{two_digits, four_digits, mark_text, day_text, clock_text, is_digit, two_at, four_at}
use Rattle.sig_der.specs.Digits.{skip, day_at, clock_at}
use Rattle.sig_der.proofs.DigitRuns.{is_digit-within}

-- what a reader of a value took from the front of a text
pub record Read {A : Type 0} (written : A → List ℕ) (Fits : A → Type 0) (text : List ℕ) (y : A × List ℕ) : Type 0 where
  pub parts : text ≡ written y.0 ++ y.1
  pub fits : Fits y.0

-- ---- two digits

abbrev pub IsTwo : ℕ → Type 0
IsTwo n = n < 100

digit_bounds : (b : ℕ) → is_digit b ≡ true → (48 ≤ b) × (b < 58)
digit_bounds b e =
    let p = and_parts (ltb 47 b) (ltb b 58) e in
    let low = ltb-true 47 b p.0 in
    let high = ltb-true b 58 p.1 in
    (omega arith, omega arith)

pub two_at_takes : (text : List ℕ) (y : ℕ × List ℕ) → two_at text ≡ Some y → Read two_digits IsTwo text y
unfolding two_at
two_at_takes [] y e = absurd cc
two_at_takes (a ∷ []) y e = absurd cc
two_at_takes (a ∷ b ∷ rest) y e =
    let w = when_is (is_digit a && is_digit b) _ y e in
    let p = and_parts (is_digit a) (is_digit b) w.0 in
    let ha = digit_bounds a p.0 in
    let hb = digit_bounds b p.1 in
    let n = (a - 48) * 10 + (b - 48) in
    let tens : 48 + n / 10 ≡ a = omega arith in
    let ones : 48 + n % 10 ≡ b = omega arith in
    subst (λ (w : ℕ × List ℕ). Read two_digits IsTwo (a ∷ b ∷ rest) w) (some_is _ y w.1) (record {
      parts = rw (tens, ones) refl;
      fits = omega arith;
    })

abbrev two_read : ℕ → List ℕ → Option (ℕ × List ℕ)
two_read n rest = Some (n, rest)

pub two_at_again : (n : ℕ) (rest : List ℕ) → n < 100 → two_at (two_digits n ++ rest) ≡ Some (n, rest)
unfolding two_at
two_at_again n rest fits =
    let same : (48 + n / 10 - 48) * 10 + (48 + n % 10 - 48) ≡ n = omega arith in
    cond-true (is_digit (48 + n / 10) && is_digit (48 + n % 10)) _ _
    (and_from _ _ (is_digit-within (48 + n / 10) (omega arith) (omega arith))
    (is_digit-within (48 + n % 10) (omega arith) (omega arith)))
    ∙ ap (λ (m : ℕ). two_read m rest) same

-- ---- four digits

abbrev pub IsFour : ℕ → Type 0
IsFour n = n < 10000

pub four_at_takes : (text : List ℕ) (y : ℕ × List ℕ) → four_at text ≡ Some y → Read four_digits IsFour text y
unfolding four_at
four_at_takes text y e =
    let a = bind_is (two_at text) _ y e in
    let b = bind_is (two_at a.0.1) _ y a.2 in
    let ta = two_at_takes text a.0 a.1 in
    let tb = two_at_takes a.0.1 b.0 b.1 in
    let ha : a.0.0 < 100 = ta.fits in
    let hb : b.0.0 < 100 = tb.fits in
    let n = a.0.0 * 100 + b.0.0 in
    let high : n / 100 ≡ a.0.0 = omega arith in
    let low : n % 100 ≡ b.0.0 = omega arith in
    subst (λ (w : ℕ × List ℕ). Read four_digits IsFour text w) (some_is _ y b.2) (record {
      parts = ta.parts ∙ ap (λ (w : List ℕ). two_digits a.0.0 ++ w) tb.parts ∙ rw (high, low) refl;
      fits = omega arith;
    })

pub four_at_again : (n : ℕ) (rest : List ℕ) → n < 10000 → four_at (four_digits n ++ rest) ≡ Some (n, rest)
unfolding four_at
four_at_again n rest fits =
    let same : n / 100 * 100 + n % 100 ≡ n = omega arith in
    bind_of_some (two_at (two_digits (n / 100) ++ (two_digits (n % 100) ++ rest))) _ _
    (two_at_again (n / 100) (two_digits (n % 100) ++ rest) (omega arith))
    ∙ bind_of_some (two_at (two_digits (n % 100) ++ rest)) _ _ (two_at_again (n % 100) rest (omega arith))
    ∙ ap (λ (m : ℕ). two_read m rest) same

-- ---- marks

pub skip_takes : (mark : Option ℕ) (text rest : List ℕ) → skip mark text ≡ Some rest → text ≡ mark_text mark ++ rest
unfolding skip
skip_takes None text rest e = some_is text rest e
skip_takes (Some b) [] rest e = absurd cc
skip_takes (Some b) (x ∷ text) rest e =
    let w = when_is (eqb x b) (Some text) rest e in
    rw (eqb-true x b w.0, some_is text rest w.1) refl

pub skip_again : (mark : Option ℕ) (rest : List ℕ) → skip mark (mark_text mark ++ rest) ≡ Some rest
unfolding skip
skip_again None rest = refl
skip_again (Some b) rest = cond-true (eqb b b) _ _ (eq-eqb b b refl)

-- ---- month and day

pub record IsDayPair (pair : ℕ × ℕ) : Type 0 where
  pub month : pair.0 < 100
  pub day : pair.1 < 100

pub day_at_takes : (mark : Option ℕ) (text : List ℕ) (y : (ℕ × ℕ) × List ℕ) → day_at mark text ≡ Some y
    → Read (day_text mark) IsDayPair text y
unfolding day_at
day_at_takes mark text y e =
    let a = bind_is (two_at text) _ y e in
    let s = bind_is (skip mark a.0.1) _ y a.2 in
    let b = bind_is (two_at s.0) _ y s.2 in
    let ta = two_at_takes text a.0 a.1 in
    let tb = two_at_takes s.0 b.0 b.1 in
    subst (λ (w : (ℕ × ℕ) × List ℕ). Read (day_text mark) IsDayPair text w) (some_is _ y b.2) (record {
      parts = ta.parts ∙ ap (λ (w : List ℕ). two_digits a.0.0 ++ w)
          (skip_takes mark a.0.1 s.0 s.1 ∙ ap (λ (w : List ℕ). mark_text mark ++ w) tb.parts
          ∙ sym (append_assoc (mark_text mark) (two_digits b.0.0) b.0.1));
      fits = record { month = ta.fits; day = tb.fits };
    })

pub day_at_again : (mark : Option ℕ) (day : ℕ × ℕ) (rest : List ℕ) → IsDayPair day
    → day_at mark (day_text mark day ++ rest) ≡ Some (day, rest)
unfolding day_at
day_at_again mark day rest fits =
    let after = two_digits day.1 ++ rest in
    let split : mark_text mark ++ two_digits day.1 ++ rest ≡ mark_text mark ++ after =
    append_assoc (mark_text mark) (two_digits day.1) rest in
    bind_of_some (two_at (two_digits day.0 ++ (mark_text mark ++ two_digits day.1 ++ rest))) _ _
    (two_at_again day.0 (mark_text mark ++ two_digits day.1 ++ rest) fits.month)
    ∙ bind_of_some (skip mark (mark_text mark ++ two_digits day.1 ++ rest)) _ _
    (ap (λ (w : List ℕ). skip mark w) split ∙ skip_again mark after)
    ∙ bind_of_some (two_at after) _ _ (two_at_again day.1 rest fits.day)

-- ---- hour, minute and second

pub record IsClockTriple (clock : ℕ × ℕ × ℕ) : Type 0 where
  pub hour : clock.0 < 100
  pub minute : clock.1 < 100
  pub second : clock.2 < 100

pub clock_at_takes : (mark : Option ℕ) (text : List ℕ) (y : (ℕ × ℕ × ℕ) × List ℕ) → clock_at mark text ≡ Some y
    → Read (clock_text mark) IsClockTriple text y
unfolding clock_at
clock_at_takes mark text y e =
    let a = bind_is (two_at text) _ y e in
    let s = bind_is (skip mark a.0.1) _ y a.2 in
    let b = bind_is (two_at s.0) _ y s.2 in
    let r = bind_is (skip mark b.0.1) _ y b.2 in
    let d = bind_is (two_at r.0) _ y r.2 in
    let ta = two_at_takes text a.0 a.1 in
    let tb = two_at_takes s.0 b.0 b.1 in
    let td = two_at_takes r.0 d.0 d.1 in
    let last = skip_takes mark b.0.1 r.0 r.1 ∙ ap (λ (w : List ℕ). mark_text mark ++ w) td.parts
    ∙ sym (append_assoc (mark_text mark) (two_digits d.0.0) d.0.1) in
    let minutes = tb.parts ∙ ap (λ (w : List ℕ). two_digits b.0.0 ++ w) last in
    let middle = skip_takes mark a.0.1 s.0 s.1 ∙ ap (λ (w : List ℕ). mark_text mark ++ w) minutes
    ∙ sym (append_assoc (mark_text mark) (two_digits b.0.0 ++ (mark_text mark ++ two_digits d.0.0)) d.0.1) in
    subst (λ (w : (ℕ × ℕ × ℕ) × List ℕ). Read (clock_text mark) IsClockTriple text w) (some_is _ y d.2) (record {
      parts = ta.parts ∙ ap (λ (w : List ℕ). two_digits a.0.0 ++ w) middle;
      fits = record { hour = ta.fits; minute = tb.fits; second = td.fits };
    })

pub clock_at_again : (mark : Option ℕ) (clock : ℕ × ℕ × ℕ) (rest : List ℕ) → IsClockTriple clock
    → clock_at mark (clock_text mark clock ++ rest) ≡ Some (clock, rest)
unfolding clock_at
clock_at_again mark clock rest fits =
    let seconds = two_digits clock.2 ++ rest in
    let minutes = two_digits clock.1 ++ (mark_text mark ++ seconds) in
    let inner = two_digits clock.1 ++ (mark_text mark ++ two_digits clock.2) in
    let inner_is : inner ++ rest ≡ minutes =
    ap (λ (w : List ℕ). two_digits clock.1 ++ w) (append_assoc (mark_text mark) (two_digits clock.2) rest) in
    let split : mark_text mark ++ inner ++ rest ≡ mark_text mark ++ minutes =
    append_assoc (mark_text mark) inner rest ∙ ap (λ (w : List ℕ). mark_text mark ++ w) inner_is in
    bind_of_some (two_at (two_digits clock.0 ++ (mark_text mark ++ inner ++ rest))) _ _
    (two_at_again clock.0 (mark_text mark ++ inner ++ rest) fits.hour)
    ∙ bind_of_some (skip mark (mark_text mark ++ inner ++ rest)) _ _
    (ap (λ (w : List ℕ). skip mark w) split ∙ skip_again mark minutes)
    ∙ bind_of_some (two_at minutes) _ _ (two_at_again clock.1 (mark_text mark ++ seconds) fits.minute)
    ∙ bind_of_some (skip mark (mark_text mark ++ seconds)) _ _ (skip_again mark seconds)
    ∙ bind_of_some (two_at seconds) _ _ (two_at_again clock.2 rest fits.second)
