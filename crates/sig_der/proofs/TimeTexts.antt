-- The texts of times in certificates: what is read is spelled so, and what is spelled is read.
use Rattle.std.proofs.Common.{◌≡◌, ℕ, ◌+◌, ◌%◌, ◌<◌, ◌≤◌, true, ltb, eqb, List, [], ◌∷◌, ◌++◌, Option, Some, None}
use Rattle.std.proofs.Common.{refl, sym, ap, subst, ◌∙◌, arith, inl, inr, pos, ℤ, ◌||◌, lit≤}
use Rattle.std.proofs.lemmas.Int.{ints}
use Rattle.jiff_core.specs.Calendar.{days_in_month, is_leap_year}
use Rattle.std.proofs.lemmas.Bool.{cases_Bool, cases_lt, lt-ltb, le-ltb, ltb-true, ltb-false, cond-true, cond-false}
use Rattle.std.proofs.lemmas.Bool.{cond_both}
use Rattle.std.proofs.lemmas.Slice.Eq.{bytes_eq-Decides}
use Rattle.sig_base.proofs.OptionSteps.{bind_is, bind_of_some, when_is, unless_is, some_is, some}
use Rattle.sig_der.specs.declared.moment.Moment.{Moment}
use Rattle.sig_der.specs.Moment.{IsReal, IsDecimal, IsSecondOf, second_of}
use Rattle.sig_der.specs.Digits.{two_digits, four_digits, day_text, clock_text, two_at, four_at, day_at, clock_at}
use Rattle.std.specs.Prelude.{IsSome, IfSome, ◌↔◌}
use Rattle.sig_der.specs.DerTime.{after_year, IsUtcTime, IsGeneralizedTime, full_year, is_zulu, rest_at, utc_at}
use Rattle.sig_der.specs.DerTime.{generalized_at}
use Rattle.sig_der.proofs.DigitTexts.{two_at_takes, two_at_again, four_at_takes, four_at_again, day_at_takes}
use Rattle.sig_der.proofs.DigitTexts.{day_at_again, clock_at_takes, clock_at_again}

-- ---- a real moment has two digits a number

days_in_month_le : (y : ℤ) (m : ℕ) → days_in_month y m ≤ 31
days_in_month_le y m =
    cond_both (eqb m 2) _ _ (λ (n : ℕ). n ≤ 31)
    (λ february. cond_both (is_leap_year y) 29 28 (λ (n : ℕ). n ≤ 31) (λ leap. lit≤ tt) (λ common. lit≤ tt))
    (λ other. cond_both (eqb m 4 || eqb m 6 || eqb m 9 || eqb m 11) 30 31 (λ (n : ℕ). n ≤ 31) (λ short. lit≤ tt)
    (λ long. lit≤ tt))

pub decimal : (m : Moment) → IsReal m → m.year < 10000 → IsDecimal m
decimal m real year =
    let most = days_in_month_le (pos m.year) m.month in
    record {
      year = year;
      month = omega (arith, ints, real.date.1.1);
      day = omega (arith, ints, real.date.2.1, most);
      hour = let h = real.hour in omega arith;
      minute = let h = real.minute in omega arith;
      second = let h = real.second in omega arith;
    }

-- the year of a real moment has four digits
pub year_below : (m : Moment) → IsReal m → m.year < 10000
year_below m real = omega (arith, ints, real.date.0.1)

-- ---- MMDDHHMMSSZ

pub record ReadRest (year : ℕ) (text : List ℕ) (m : Moment) : Type 0 where
  pub parts : text ≡ after_year m
  pub same : m.year ≡ year

zulu_is : (text : List ℕ) → is_zulu text ≡ true → text ≡ 90 ∷ []
zulu_is text e = (bytes_eq-Decides text (90 ∷ [])).0 e

pub rest_at_takes : (year : ℕ) (text : List ℕ) (m : Moment) → rest_at year text ≡ Some m → ReadRest year text m
unfolding rest_at
rest_at_takes year text m e =
    let d = bind_is (day_at None text) _ m e in
    let c = bind_is (clock_at None d.0.1) _ m d.2 in
    let w = when_is (is_zulu c.0.1) _ m c.2 in
    let td = day_at_takes None text d.0 d.1 in
    let tc = clock_at_takes None d.0.1 c.0 c.1 in
    subst (λ (w : Moment). ReadRest year text w) (some_is _ m w.1) (record {
      parts =
          td.parts ∙ ap (λ (w : List ℕ). day_text None d.0.0 ++ w)
          (tc.parts ∙ ap (λ (w : List ℕ). clock_text None c.0.0 ++ w) (zulu_is c.0.1 w.0));
      same = refl;
    })

pub rest_at_again : (m : Moment) → IsDecimal m → rest_at m.year (after_year m) ≡ Some m
unfolding rest_at
rest_at_again m fits =
    let clock = clock_text None (m.hour, m.minute, m.second) in
    bind_of_some (day_at None (after_year m)) _ _
    (day_at_again None (m.month, m.day) (clock ++ 90 ∷ []) (record { month = fits.month; day = fits.day }))
    ∙ bind_of_some (clock_at None (clock ++ 90 ∷ [])) _ _
    (clock_at_again None (m.hour, m.minute, m.second) (90 ∷ [])
    (record { hour = fits.hour; minute = fits.minute; second = fits.second }))

-- ---- UTCTime

pub record ReadUtc (text : List ℕ) (m : Moment) : Type 0 where
  pub from : 1970 ≤ m.year
  pub to : m.year < 2050
  pub spelled : text ≡ two_digits (m.year % 100) ++ after_year m

record IsFullYear (short year : ℕ) : Type 0 where
  from : 1970 ≤ year
  to : year < 2050
  last : year % 100 ≡ short

full_year_takes : (short year : ℕ) → short < 100 → full_year short ≡ Some year → IsFullYear short year
full_year_takes short year fits e =
    elim (cases_Bool (ltb short 50)) [
      | inl young ↦
          let lt = ltb-true short 50 young in
          subst (λ (w : ℕ). IsFullYear short w)
          (some_is (2000 + short) year (sym (cond-true (ltb short 50) _ _ young) ∙ e))
          (record { from = omega arith; to = omega arith; last = omega arith })
      | inr old ↦
          let ge = ltb-false short 50 old in
          let w = unless_is (ltb short 70) (Some (1900 + short)) year (sym (cond-false (ltb short 50) _ _ old) ∙ e) in
          let from = ltb-false short 70 w.0 in
          subst (λ (w : ℕ). IsFullYear short w) (some_is (1900 + short) year w.1)
          (record { from = omega arith; to = omega arith; last = omega arith })
    ]

abbrev some_year : ℕ → Option ℕ
some_year year = Some year

full_year_again : (year : ℕ) → 1970 ≤ year → year < 2050 → full_year (year % 100) ≡ Some year
full_year_again year from to =
    elim (cases_lt year 2000) [
      | inl before ↦
          let same : 1900 + year % 100 ≡ year = omega arith in
          cond-false (ltb (year % 100) 50) _ _ (le-ltb (year % 100) 50 (omega arith))
          ∙ cond-false (ltb (year % 100) 70) _ _ (le-ltb (year % 100) 70 (omega arith))
          ∙ ap (λ (w : ℕ). some_year w) same
      | inr since ↦
          let same : 2000 + year % 100 ≡ year = omega arith in
          cond-true (ltb (year % 100) 50) _ _ (lt-ltb (year % 100) 50 (omega arith)) ∙ ap (λ (w : ℕ). some_year w) same
    ]

pub utc_at_takes : (text : List ℕ) (m : Moment) → utc_at text ≡ Some m → ReadUtc text m
unfolding utc_at
utc_at_takes text m e =
    let a = bind_is (two_at text) _ m e in
    let y = bind_is (full_year a.0.0) _ m a.2 in
    let ta = two_at_takes text a.0 a.1 in
    let ty = full_year_takes a.0.0 y.0 ta.fits y.1 in
    let tr = rest_at_takes y.0 a.0.1 m y.2 in
    let year : m.year ≡ y.0 = tr.same in
    let from : 1970 ≤ y.0 = ty.from in
    let to : y.0 < 2050 = ty.to in
    let short : m.year % 100 ≡ a.0.0 = ap (λ (n : ℕ). n % 100) year ∙ ty.last in
    record {
      from = omega arith;
      to = omega arith;
      spelled = ta.parts ∙ ap (λ (w : List ℕ). two_digits a.0.0 ++ w) tr.parts
          ∙ ap (λ (n : ℕ). two_digits n ++ after_year m) (sym short);
    }

pub utc_at_again : (text : List ℕ) (m : Moment) → IsUtcTime text m → utc_at text ≡ Some m
unfolding utc_at
utc_at_again text m is =
    let from = is.from in
    let to = is.to in
    ap (λ (w : List ℕ). utc_at w) is.spelled
    ∙ bind_of_some (two_at (two_digits (m.year % 100) ++ after_year m)) _ _
    (two_at_again (m.year % 100) (after_year m) (omega arith))
    ∙ bind_of_some (full_year (m.year % 100)) _ _ (full_year_again m.year from to)
    ∙ rest_at_again m (decimal m is.real (omega arith))

-- ---- GeneralizedTime

pub record ReadGeneralized (text : List ℕ) (m : Moment) : Type 0 where
  pub from : 1970 ≤ m.year
  pub spelled : text ≡ four_digits m.year ++ after_year m

pub generalized_at_takes : (text : List ℕ) (m : Moment) → generalized_at text ≡ Some m → ReadGeneralized text m
unfolding generalized_at
generalized_at_takes text m e =
    let a = bind_is (four_at text) _ m e in
    let w = unless_is (ltb a.0.0 1970) _ m a.2 in
    let ta = four_at_takes text a.0 a.1 in
    let tr = rest_at_takes a.0.0 a.0.1 m w.1 in
    let year : m.year ≡ a.0.0 = tr.same in
    let from : 1970 ≤ a.0.0 = ltb-false a.0.0 1970 w.0 in
    record {
      from = omega arith;
      spelled = ta.parts ∙ ap (λ (w : List ℕ). four_digits a.0.0 ++ w) tr.parts
          ∙ ap (λ (n : ℕ). four_digits n ++ after_year m) (sym year);
    }

pub generalized_at_again : (text : List ℕ) (m : Moment) → IsGeneralizedTime text m → generalized_at text ≡ Some m
unfolding generalized_at
generalized_at_again text m is =
    let year = year_below m is.real in
    ap (λ (w : List ℕ). generalized_at w) is.spelled
    ∙ bind_of_some (four_at (four_digits m.year ++ after_year m)) _ _ (four_at_again m.year (after_year m) year)
    ∙ cond-false (ltb m.year 1970) _ _ (le-ltb m.year 1970 is.from)
    ∙ rest_at_again m (decimal m is.real year)

-- ---- the second of a text

-- what a reader of moments reads is a time of its kind where it is real, and such a time is read
pub record IsTimeReader (read : Option Moment) (IsTime : Moment → Type 0) : Type 0 where
  pub takes : (m : Moment) → read ≡ Some m → IsReal m → IsTime m
  pub again : (m : Moment) → IsTime m → read ≡ Some m
  pub real : (m : Moment) → IsTime m → IsReal m

pub utc_reader : (text : List ℕ) → IsTimeReader (utc_at text) (IsUtcTime text)
utc_reader text = record {
  takes =
      λ m e real. let t =
      utc_at_takes text m e in record { real = real; from = t.from; to = t.to; spelled = t.spelled };
  again = λ m is. utc_at_again text m is;
  real = λ m is. is.real;
}

pub generalized_reader : (text : List ℕ) → IsTimeReader (generalized_at text) (IsGeneralizedTime text)
generalized_reader text = record {
  takes =
      λ m e real. let t = generalized_at_takes text m e in record { real = real; from = t.from; spelled = t.spelled };
  again = λ m is. generalized_at_again text m is;
  real = λ m is. is.real;
}

-- what second_at answers for a moment
abbrev pub IsSecondAt : Moment → Option ℤ → Type 0
IsSecondAt m r = (IsSome r ↔ IsReal m) × IfSome r (λ s. s ≡ second_of m)

pub second_found : (read : Option Moment) (IsTime : Moment → Type 0) → IsTimeReader read IsTime → (m : Moment)
    → read ≡ Some m
    → (r : Option ℤ) → IsSecondAt m r → IfSome r (IsSecondOf IsTime)
second_found read IsTime reader m e None at = tt
second_found read IsTime reader m e (Some s) at =
    record { moment = m; time = reader.takes m e (at.0.0 refl); value = at.1 }

abbrev some_second : ℤ → Option ℤ
some_second s = Some s

pub second_only : (read : Option Moment) (IsTime : Moment → Type 0) → IsTimeReader read IsTime → (m : Moment)
    → read ≡ Some m
    → (r : Option ℤ) → IsSecondAt m r → (s : ℤ) → IsSecondOf IsTime s → r ≡ Some s
second_only read IsTime reader m e r at s is =
    let same : m ≡ is.moment = some_is m is.moment (sym e ∙ reader.again is.moment is.time) in
    let real : IsReal m = subst (λ (w : Moment). IsReal w) (sym same) (reader.real is.moment is.time) in
    exact r at (at.0.1 real) (is.value ∙ ap (λ (w : Moment). second_of w) (sym same))
  where
    exact : (r : Option ℤ) → IsSecondAt m r → IsSome r → s ≡ second_of m → r ≡ Some s
    exact None at some value = absurd cc
    exact (Some t) at some value = ap (λ (w : ℤ). some_second w) (at.1 ∙ sym value)

pub second_none : (read : Option Moment) (IsTime : Moment → Type 0) → IsTimeReader read IsTime → read ≡ None → (s : ℤ)
    → IsSecondOf IsTime s → ⊥
second_none read IsTime reader e s is = let no = sym e ∙ reader.again is.moment is.time in cc
