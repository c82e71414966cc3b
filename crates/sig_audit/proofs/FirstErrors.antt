-- The first error of a step on each element in turn: as a loop finds it, and where it is.
use Rattle.std.proofs.Common.{◌≡◌, ℕ, ◌+◌, ◌<◌, ◌≤◌, List, [], ◌∷◌, ◌++◌, length, drop, get_or, slice_get, Option, Some, None, Result, Ok}
use Rattle.std.proofs.Common.{suc, Err, refl, sym, ap, ◌∙◌, arith, inl, inr, add-zero}
use Rattle.std.proofs.lemmas.List.{drop_more, drop_all}
use Rattle.sig_base.proofs.ResultSteps.{bind_ok, bind_err}
use Rattle.sig_base.specs.ResultSteps.{◌>>=◌}
use Rattle.sig_audit.specs.Answer.{first_error, path_answer, watch_answer}
use Rattle.sig_audit.specs.declared.error.AuditError.{AuditError}
use Rattle.sig_audit.specs.declared.heads.AuditHead.{AuditHead}
use Rattle.sig_audit.specs.declared.heads.Watch.{Watch}

-- the element before the next one
abbrev pub last_or : {A : Type 0} → Option A → List A → Option A
last_or before [] = before
last_or before (x ∷ later) = last_or (Some x) later

module _ {A E : Type 0} where
  first-cons : (step : Option A → ℕ → A → Result (Unit {0}) E) (before : Option A) (place : ℕ) (x : A) (later : List A)
      → first_error step before place (x ∷ later) ≡
      (step before place x >>= λ _. first_error step (Some x) (place + 1) later)
  unfolding first_error
  first-cons step before place x later = refl

  first-here : (step : Option A → ℕ → A → Result (Unit {0}) E) (all : List A) (before : Option A) (place : ℕ) (x : A)
      → place < length all → x ≡ get_or all place x → first_error step before place (drop place all) ≡
      (step before place x >>= λ _. first_error step (Some x) (place + 1) (drop (place + 1) all))
  first-here step all before place x below here =
      ap (first_error step before place) (drop_more all place x below ∙ ap (λ y. y ∷ drop (place + 1) all) (sym here))
      ∙ first-cons step before place x (drop (place + 1) all)

  -- the element at hand passes
  pub first-more : (step : Option A → ℕ → A → Result (Unit {0}) E) (all : List A) (before : Option A) (place : ℕ) (x : A)
      (u : Unit {0}) (whole : Result (Unit {0}) E) → whole ≡ first_error step before place (drop place all)
      → place < length all → x ≡ get_or all place x → step before place x ≡ Ok u
      → whole ≡ first_error step (Some x) (place + 1) (drop (place + 1) all)
  first-more step all before place x u whole so_far below here is =
      so_far ∙ first-here step all before place x below here ∙ rw is refl

  -- or it fails
  pub first-fails : (step : Option A → ℕ → A → Result (Unit {0}) E) (all : List A) (before : Option A) (place : ℕ) (x : A)
      (e : E) (whole : Result (Unit {0}) E) → whole ≡ first_error step before place (drop place all)
      → place < length all → x ≡ get_or all place x → step before place x ≡ Err e → whole ≡ Err e
  first-fails step all before place x e whole so_far below here is =
      so_far ∙ first-here step all before place x below here ∙ rw is refl

  -- none is left
  pub first-done : (step : Option A → ℕ → A → Result (Unit {0}) E) (all : List A) (before : Option A) (place : ℕ)
      (whole : Result (Unit {0}) E) → whole ≡ first_error step before place (drop place all) → length all ≤ place
      → whole ≡ Ok tt
  unfolding first_error
  first-done step all before place whole so_far end = so_far ∙ rw (drop_all place all end) refl

  -- where the first error is
  pub record IsFirstError (step : Option A → ℕ → A → Result (Unit {0}) E) (before : Option A) (place : ℕ) (all : List A)
      (e : E) : Type 0 where
    pub front : List A
    pub here : A
    pub after : List A
    pub split : all ≡ front ++ here ∷ after
    pub passed : first_error step before place front ≡ Ok tt
    pub fails : step (last_or before front) (place + length front) here ≡ Err e

  pub first-at : (step : Option A → ℕ → A → Result (Unit {0}) E) (before : Option A) (place : ℕ) (all : List A) (e : E)
      → first_error step before place all ≡ Err e → IsFirstError step before place all e
  unfolding first_error
  first-at step before place [] e is = absurd cc
  first-at step before place (x ∷ later) e is =
      elim (bind_err (step before place x) (λ _. first_error step (Some x) (place + 1) later) e is) [
        | inl fails ↦ record {
          front = [];
          here = x;
          after = later;
          split = refl;
          passed = refl;
          fails = rw (add-zero place) fails;
        }
        | inr (u, ok, rest) ↦ (let found = first-at step (Some x) (place + 1) later e rest in record {
          front = x ∷ found.front;
          here = found.here;
          after = found.after;
          split = ap (λ xs. x ∷ xs) found.split;
          passed = rw ok found.passed;
          fails = rw (let eq : place + suc (length found.front) ≡ place + 1 + length found.front = omega arith in eq)
              found.fails;
        })
      ]

  pub first-from : (step : Option A → ℕ → A → Result (Unit {0}) E) (before : Option A) (place : ℕ) (front : List A)
      (here : A) (after : List A) (e : E) → first_error step before place front ≡ Ok tt
      → step (last_or before front) (place + length front) here ≡ Err e
      → first_error step before place (front ++ here ∷ after) ≡ Err e
  unfolding first_error
  first-from step before place [] here after e passed fails =
      let now : step before place here ≡ Err e = rw (add-zero place) at fails in
      rw now refl
  first-from step before place (x ∷ front) here after e passed fails =
      let (u, ok, rest) = bind_ok (step before place x) (λ _. first_error step (Some x) (place + 1) front) tt passed in
      rw ok (first-from step (Some x) (place + 1) front here after e rest
      (rw (let eq : place + 1 + length front ≡ place + suc (length front) = omega arith in eq) fails))

-- ---- the watches, whose check does not look at the one before

other-before : (heads : List AuditHead) (one other : Option Watch) (place : ℕ) (watched : List Watch)
    → first_error (watch_answer heads) one place watched ≡ first_error (watch_answer heads) other place watched
unfolding first_error
other-before heads one other place [] = refl
other-before heads one other place (watch ∷ later) = refl

pub watch-more : (heads : List AuditHead) (all : List Watch) (place : ℕ) (watch : Watch) (u : Unit {0})
    (whole : Result (Unit {0}) AuditError) → whole ≡ first_error (watch_answer heads) None place (drop place all)
    → place < length all → watch ≡ get_or all place watch
    → Ok u ≡ path_answer place watch (slice_get heads watch.head)
    → whole ≡ first_error (watch_answer heads) None (place + 1) (drop (place + 1) all)
watch-more heads all place watch u whole so_far below here is =
    first-more (watch_answer heads) all None place watch u whole so_far below here (sym is)
    ∙ other-before heads (Some watch) None (place + 1) (drop (place + 1) all)

pub watch-fails : (heads : List AuditHead) (all : List Watch) (place : ℕ) (watch : Watch) (e : AuditError)
    (whole : Result (Unit {0}) AuditError) → whole ≡ first_error (watch_answer heads) None place (drop place all)
    → place < length all → watch ≡ get_or all place watch
    → Err e ≡ path_answer place watch (slice_get heads watch.head) → whole ≡ Err e
watch-fails heads all place watch e whole so_far below here is =
    first-fails (watch_answer heads) all None place watch e whole so_far below here (sym is)

pub watch-done : (heads : List AuditHead) (all : List Watch) (place : ℕ) (whole : Result (Unit {0}) AuditError)
    → whole ≡ first_error (watch_answer heads) None place (drop place all) → length all ≤ place → Ok tt ≡ whole
watch-done heads all place whole so_far end = sym (first-done (watch_answer heads) all None place whole so_far end)

pub ruleset watch_errors = (watch-more, watch-fails, watch-done)

pub ruleset first_errors = (first-more, first-fails, first-done)
