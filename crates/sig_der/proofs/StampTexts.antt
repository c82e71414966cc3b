-- The texts of instants: what is read is spelled so, and what is spelled is read.
use Rattle.std.proofs.Common.{◌≡◌, ◌≢◌, ℕ, ◌+◌, ◌*◌, ◌<◌, ◌≤◌, true, ltb, eqb, ◌&&◌, List, [], ◌∷◌, ◌++◌, length}
use Rattle.std.proofs.Common.{Option, Some, None, refl, sym, ap, subst, ◌∙◌, arith, inl, inr, ℤ, pos, neg_ℤ, ◌-ℤ◌, ◌↔◌}
use Rattle.std.specs.Prelude.{IsSome, IfSome}
use Rattle.std.specs.List.{AllByRecursion}
use Rattle.std.proofs.lemmas.Bool.{cases_Bool, lt-ltb, ltb-true, eqb-true, eqb-false, ne_eqb, and_parts, and_from}
use Rattle.std.proofs.lemmas.Bool.{cond-true, cond-false}
use Rattle.std.proofs.lemmas.List.{nil_from_length}
use Rattle.sig_base.proofs.OptionSteps.{bind_is, bind_of_some, when_is, unless_is, some_is, some}
use Rattle.sig_der.specs.declared.moment.Moment.{Moment}
use Rattle.sig_der.specs.Moment.{IsReal, IsDecimal, second_of}
use Rattle.sig_der.specs.Digits.{two_digits, four_digits, day_text, clock_text, is_digit, two_at, four_at, skip}
use Rattle.sig_der.specs.Digits.{day_at, clock_at}
use Rattle.sig_der.specs.Stamp.{front_text, Zone, zulu, ahead, behind, offset_text, zone_text, IsZone, offset_of}
use Rattle.sig_der.specs.Stamp.{IsFraction, whole, part, IsInstantOf, front_at, after_digit, after_digits, fraction_at}
use Rattle.sig_der.specs.Stamp.{offset_at, zone_at, stamp_at}
use Rattle.sig_der.proofs.DigitRuns.{run_takes, run_again}
use Rattle.sig_der.proofs.DigitTexts.{two_at_takes, two_at_again, four_at_takes, four_at_again, skip_takes, skip_again}
use Rattle.sig_der.proofs.DigitTexts.{day_at_takes, day_at_again, clock_at_takes, clock_at_again}
use Rattle.sig_der.proofs.TimeTexts.{decimal, year_below}

-- ---- YYYY-MM-DDTHH:MM:SS

pub front_at_takes : (text : List ℕ) (y : Moment × List ℕ) → front_at text ≡ Some y → text ≡ front_text y.0 ++ y.1
unfolding front_at
front_at_takes text y e =
    let a = bind_is (four_at text) _ y e in
    let s = bind_is (skip (Some 45) a.0.1) _ y a.2 in
    let d = bind_is (day_at (Some 45) s.0) _ y s.2 in
    let t = bind_is (skip (Some 84) d.0.1) _ y d.2 in
    let c = bind_is (clock_at (Some 58) t.0) _ y t.2 in
    let clock = skip_takes (Some 84) d.0.1 t.0 t.1
    ∙ ap (λ (w : List ℕ). 84 ∷ w) (clock_at_takes (Some 58) t.0 c.0 c.1).parts in
    let day = (day_at_takes (Some 45) s.0 d.0 d.1).parts ∙ ap (λ (w : List ℕ). day_text (Some 45) d.0.0 ++ w) clock in
    let year = (four_at_takes text a.0 a.1).parts
    ∙ ap (λ (w : List ℕ). four_digits a.0.0 ++ w)
    (skip_takes (Some 45) a.0.1 s.0 s.1 ∙ ap (λ (w : List ℕ). 45 ∷ w) day) in
    subst (λ (w : Moment × List ℕ). text ≡ front_text w.0 ++ w.1) (some_is _ y c.2) year

pub front_at_again : (m : Moment) (rest : List ℕ) → IsDecimal m → front_at (front_text m ++ rest) ≡ Some (m, rest)
unfolding front_at
front_at_again m rest fits =
    let clock = clock_text (Some 58) (m.hour, m.minute, m.second) ++ rest in
    let day = day_text (Some 45) (m.month, m.day) ++ 84 ∷ clock in
    bind_of_some (four_at (four_digits m.year ++ 45 ∷ day)) _ _ (four_at_again m.year (45 ∷ day) fits.year)
    ∙ bind_of_some (skip (Some 45) (45 ∷ day)) _ _ (skip_again (Some 45) day)
    ∙ bind_of_some (day_at (Some 45) day) _ _
    (day_at_again (Some 45) (m.month, m.day) (84 ∷ clock) (record { month = fits.month; day = fits.day }))
    ∙ bind_of_some (skip (Some 84) (84 ∷ clock)) _ _ (skip_again (Some 84) clock)
    ∙ bind_of_some (clock_at (Some 58) clock) _ _
    (clock_at_again (Some 58) (m.hour, m.minute, m.second) rest
    (record { hour = fits.hour; minute = fits.minute; second = fits.second }))

-- ---- the fraction

pub record ReadFraction (text rest : List ℕ) : Type 0 where
  pub fraction : List ℕ
  pub is : IsFraction fraction
  pub parts : text ≡ fraction ++ rest

pub fraction_at_takes : (text rest : List ℕ) → fraction_at text ≡ Some rest → ReadFraction text rest
unfolding fraction_at after_digits
fraction_at_takes [] rest e = record { fraction = []; is = whole; parts = some_is [] rest e }
fraction_at_takes (b ∷ []) rest e =
    elim (cases_Bool (eqb b 46)) [
      | inl point ↦ absurd (let no = sym (cond-true (eqb b 46) None (some (b ∷ [])) point) ∙ e in cc)
      | inr other ↦ record {
        fraction = [];
        is = whole;
        parts = some_is (b ∷ []) rest (sym (cond-false (eqb b 46) None (some (b ∷ [])) other) ∙ e);
      }
    ]
fraction_at_takes (b ∷ d ∷ text) rest e =
    elim (cases_Bool (eqb b 46)) [
      | inl point ↦
          let w =
          when_is (is_digit d) (some (after_digits 8 (after_digit (d ∷ text)))) rest
          (sym (cond-true (eqb b 46) _ (some (b ∷ d ∷ text)) point) ∙ e) in
          let run = run_takes 8 text in
          let skipped : after_digit (d ∷ text) ≡ text = cond-true (is_digit d) _ _ w.0 in
          let left : after_digits 8 text ≡ rest =
          ap (λ (v : List ℕ). after_digits 8 v) (sym skipped) ∙ some_is _ rest w.1 in
          record {
            fraction = 46 ∷ d ∷ run.0;
            is = part (d ∷ run.0) (w.0, run.1.each) (omega arith) (omega (arith, run.1.bound));
            parts =
                rw (eqb-true b 46 point)
                (ap (λ (v : List ℕ). 46 ∷ d ∷ v) (run.1.parts ∙ ap (λ (v : List ℕ). run.0 ++ v) left));
          }
      | inr other ↦ record {
        fraction = [];
        is = whole;
        parts = some_is (b ∷ d ∷ text) rest (sym (cond-false (eqb b 46) _ (some (b ∷ d ∷ text)) other) ∙ e);
      }
    ]

-- a text that goes on with neither a point nor a digit
record Stops (rest : List ℕ) : Type 0 where
  whole : fraction_at rest ≡ Some rest
  ends : after_digit rest ≡ rest

zone_stops : (z : Zone) → Stops (zone_text z)
unfolding fraction_at
zone_stops zulu = record { whole = refl; ends = refl }
zone_stops (ahead h m) = record { whole = refl; ends = refl }
zone_stops (behind h m) = record { whole = refl; ends = refl }

pointed : (z : Zone) (digits : List ℕ) → AllByRecursion (λ b. is_digit b ≡ true) digits → 1 ≤ length digits
    → length digits ≤ 9
    → fraction_at (46 ∷ (digits ++ zone_text z)) ≡ Some (zone_text z)
unfolding fraction_at
pointed z [] each some_digits bound = absurd (omega arith)
pointed z (d ∷ digits) each some_digits bound =
    cond-true (is_digit d) _ _ each.0
    ∙ ap (λ (w : List ℕ). some w) (run_again 9 (d ∷ digits) (zone_text z) each bound (zone_stops z).ends)

pub fraction_at_again : (fraction : List ℕ) (z : Zone) → IsFraction fraction
    → fraction_at (fraction ++ zone_text z) ≡ Some (zone_text z)
fraction_at_again fraction z whole = (zone_stops z).whole
fraction_at_again fraction z (part digits each some_digits bound) = pointed z digits each some_digits bound

-- ---- the zone

pub record ReadOffset (text : List ℕ) (n : ℕ) : Type 0 where
  pub hours : ℕ
  pub minutes : ℕ
  pub hour : hours < 24
  pub minute : minutes < 60
  pub parts : text ≡ offset_text hours minutes
  pub value : n ≡ hours * 3600 + minutes * 60

offset_at_takes : (text : List ℕ) (n : ℕ) → offset_at text ≡ Some n → ReadOffset text n
unfolding offset_at
offset_at_takes text n e =
    let h = bind_is (two_at text) _ n e in
    let s = bind_is (skip (Some 58) h.0.1) _ n h.2 in
    let m = bind_is (two_at s.0) _ n s.2 in
    let w = when_is (ltb h.0.0 24 && ltb m.0.0 60 && eqb (length m.0.1) 0) _ n m.2 in
    let p = and_parts (ltb h.0.0 24 && ltb m.0.0 60) (eqb (length m.0.1) 0) w.0 in
    let q = and_parts (ltb h.0.0 24) (ltb m.0.0 60) p.0 in
    let none = nil_from_length m.0.1 (eqb-true (length m.0.1) 0 p.1) in
    record {
      hours = h.0.0;
      minutes = m.0.0;
      hour = ltb-true h.0.0 24 q.0;
      minute = ltb-true m.0.0 60 q.1;
      parts = (two_at_takes text h.0 h.1).parts ∙ ap (λ (w : List ℕ). two_digits h.0.0 ++ w)
          (skip_takes (Some 58) h.0.1 s.0 s.1 ∙ ap (λ (w : List ℕ). 58 ∷ w)
          ((two_at_takes s.0 m.0 m.1).parts ∙ ap (λ (w : List ℕ). two_digits m.0.0 ++ w) none));
      value = sym (some_is _ n w.1);
    }

offset_at_again : (hours minutes : ℕ) → hours < 24 → minutes < 60
    → offset_at (offset_text hours minutes) ≡ Some (hours * 3600 + minutes * 60)
unfolding offset_at
offset_at_again hours minutes hour minute =
    let after = two_digits minutes in
    bind_of_some (two_at (two_digits hours ++ 58 ∷ after)) _ _ (two_at_again hours (58 ∷ after) (omega arith))
    ∙ bind_of_some (skip (Some 58) (58 ∷ after)) _ _ (skip_again (Some 58) after)
    ∙ bind_of_some (two_at after) _ _ (two_at_again minutes [] (omega arith))
    ∙ cond-true (ltb hours 24 && ltb minutes 60 && true) _ _
    (and_from _ _ (and_from _ _ (lt-ltb hours 24 hour) (lt-ltb minutes 60 minute)) refl)

pub record ReadZone (text : List ℕ) (offset : ℤ) : Type 0 where
  pub zone : Zone
  pub is : IsZone zone
  pub parts : text ≡ zone_text zone
  pub value : offset ≡ offset_of zone

pub zone_at_takes : (text : List ℕ) (offset : ℤ) → zone_at text ≡ Some offset → ReadZone text offset
unfolding zone_at
zone_at_takes [] offset e = absurd cc
zone_at_takes (b ∷ text) offset e =
    elim (cases_Bool (eqb b 90)) [
      | inl z ↦
          let w = when_is (eqb (length text) 0) (some (pos 0)) offset (sym (cond-true (eqb b 90) _ _ z) ∙ e) in
          let none = nil_from_length text (eqb-true (length text) 0 w.0) in
          record {
            zone = zulu;
            is = tt;
            parts = ap (λ (v : ℕ). v ∷ text) (eqb-true b 90 z)
                ∙ ap (λ (w : List ℕ). 90 ∷ w) none;
            value = sym (some_is (pos 0) offset w.1);
          }
      | inr not90 ↦
          let e2 = sym (cond-false (eqb b 90) _ _ not90) ∙ e in
          elim (cases_Bool (eqb b 43)) [
            | inl plus ↦
                let h =
                bind_is (offset_at text) (λ n. some (pos n)) offset (sym (cond-true (eqb b 43) _ _ plus) ∙ e2) in
                let t = offset_at_takes text h.0 h.1 in
                record {
                  zone = ahead t.hours t.minutes;
                  is = (t.hour, t.minute);
                  parts = ap (λ (v : ℕ). v ∷ text) (eqb-true b 43 plus) ∙ ap (λ (w : List ℕ). 43 ∷ w) t.parts;
                  value = sym (some_is (pos h.0) offset h.2) ∙ ap (λ (n : ℕ). pos n) t.value;
                }
            | inr not43 ↦
                let e3 = sym (cond-false (eqb b 43) _ _ not43) ∙ e2 in
                let w = when_is (eqb b 45) _ offset e3 in
                let h = bind_is (offset_at text) (λ n. some (neg_ℤ (pos n))) offset w.1 in
                let t = offset_at_takes text h.0 h.1 in
                record {
                  zone = behind t.hours t.minutes;
                  is = (t.hour, t.minute);
                  parts = ap (λ (v : ℕ). v ∷ text) (eqb-true b 45 w.0) ∙ ap (λ (w : List ℕ). 45 ∷ w) t.parts;
                  value = sym (some_is (neg_ℤ (pos h.0)) offset h.2) ∙ ap (λ (n : ℕ). neg_ℤ (pos n)) t.value;
                }
          ]
    ]

pub zone_at_again : (z : Zone) → IsZone z → zone_at (zone_text z) ≡ Some (offset_of z)
unfolding zone_at
zone_at_again zulu is = refl
zone_at_again (ahead h m) is = bind_of_some (offset_at (offset_text h m)) _ _ (offset_at_again h m is.0 is.1)
zone_at_again (behind h m) is = bind_of_some (offset_at (offset_text h m)) _ _ (offset_at_again h m is.0 is.1)

-- ---- the instant

-- what is read of a text, apart from whether the moment is real
pub record ReadStamp (text : List ℕ) (y : Moment × ℤ) : Type 0 where
  pub fraction : List ℕ
  pub zone : Zone
  pub fractional : IsFraction fraction
  pub zoned : IsZone zone
  pub year : 1 ≤ y.0.year
  pub spelled : text ≡ front_text y.0 ++ (fraction ++ zone_text zone)
  pub offset : y.1 ≡ offset_of zone

stamp_at_takes : (text : List ℕ) (y : Moment × ℤ) → stamp_at text ≡ Some y → ReadStamp text y
unfolding stamp_at
stamp_at_takes text y e =
    let f = bind_is (front_at text) _ y e in
    let r = bind_is (fraction_at f.0.1) _ y f.2 in
    let z = bind_is (zone_at r.0) _ y r.2 in
    let w = unless_is (eqb f.0.0.year 0) (some (f.0.0, z.0)) y z.2 in
    let tf = front_at_takes text f.0 f.1 in
    let tr = fraction_at_takes f.0.1 r.0 r.1 in
    let tz = zone_at_takes r.0 z.0 z.1 in
    let not_zero : f.0.0.year ≢ 0 = eqb-false f.0.0.year 0 w.0 in
    subst (λ (v : Moment × ℤ). ReadStamp text v) (some_is _ y w.1) (record {
      fraction = tr.fraction;
      zone = tz.zone;
      fractional = tr.is;
      zoned = tz.is;
      year = omega arith;
      spelled =
          tf ∙ ap (λ (w : List ℕ). front_text f.0.0 ++ w) (tr.parts ∙ ap (λ (w : List ℕ). tr.fraction ++ w) tz.parts);
      offset = tz.value;
    })

stamp_at_again : (text : List ℕ) (s : ℤ) → (is : IsInstantOf text s)
    → stamp_at text ≡ Some (is.moment, offset_of is.zone)
unfolding stamp_at
stamp_at_again text s is =
    let m = is.moment in
    let zone = zone_text is.zone in
    let not_zero : m.year ≢ 0 = omega (arith, is.year) in
    ap (λ (w : List ℕ). stamp_at w) is.spelled
    ∙ bind_of_some (front_at (front_text m ++ (is.fraction ++ zone))) _ _
    (front_at_again m (is.fraction ++ zone) (decimal m is.real (year_below m is.real)))
    ∙ bind_of_some (fraction_at (is.fraction ++ zone)) _ _ (fraction_at_again is.fraction is.zone is.fractional)
    ∙ bind_of_some (zone_at zone) _ _ (zone_at_again is.zone is.zoned)
    ∙ cond-false (eqb m.year 0) _ _ (ne_eqb m.year 0 not_zero)

-- what the code answers for a moment and an offset
abbrev pub IsSecondBefore : Moment × ℤ → Option ℤ → Type 0
IsSecondBefore y r = (IsSome r ↔ IsReal y.0) × IfSome r (λ s. s ≡ (second_of y.0 -ℤ y.1))

pub instant_found : (text : List ℕ) (y : Moment × ℤ) → stamp_at text ≡ Some y → (r : Option ℤ) → IsSecondBefore y r
    → IfSome r (IsInstantOf text)
instant_found text y e None at = tt
instant_found text y e (Some s) at =
    let t = stamp_at_takes text y e in
    record {
      moment = y.0;
      fraction = t.fraction;
      zone = t.zone;
      real = at.0.0 refl;
      year = t.year;
      fractional = t.fractional;
      zoned = t.zoned;
      spelled = t.spelled;
      value = at.1 ∙ ap (λ (w : ℤ). second_of y.0 -ℤ w) t.offset;
    }

abbrev some_second : ℤ → Option ℤ
some_second s = Some s

answer_is : (y : Moment × ℤ) (s : ℤ) (r : Option ℤ) → IsSecondBefore y r → IsReal y.0 → s ≡ (second_of y.0 -ℤ y.1)
    → r ≡ Some s
answer_is y s None at real value = absurd (let no = at.0.1 real in cc)
answer_is y s (Some t) at real value = ap (λ (w : ℤ). some_second w) (at.1 ∙ sym value)

pub instant_only : (text : List ℕ) (y : Moment × ℤ) → stamp_at text ≡ Some y → (r : Option ℤ) → IsSecondBefore y r
    → (s : ℤ) → IsInstantOf text s → r ≡ Some s
instant_only text y e r at s is =
    let same : y ≡ (is.moment, offset_of is.zone) = some_is _ _ (sym e ∙ stamp_at_again text s is) in
    answer_is y s r at (subst (λ (w : Moment × ℤ). IsReal w.0) (sym same) is.real)
    (is.value ∙ ap (λ (w : Moment × ℤ). second_of w.0 -ℤ w.1) (sym same))

pub instant_none : (text : List ℕ) → stamp_at text ≡ None → (s : ℤ) → IsInstantOf text s → ⊥
instant_none text e s is = let no = sym e ∙ stamp_at_again text s is in cc
