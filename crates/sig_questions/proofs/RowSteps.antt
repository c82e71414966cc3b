-- Steps that add rows, one after the other.
use Rattle.std.proofs.Common.{◌≡◌, ℕ, ◌+◌, ◌<◌, zero, suc, List, [], ◌∷◌, ◌++◌, take, get_or, length, Result, Ok, Err}
use Rattle.std.proofs.Common.{refl, sym, ap, subst, arith, ◌∙◌}
use Rattle.std.specs.List.{flat_map}
use Rattle.std.proofs.lemmas.List.{append-nil, append_assoc, take_more}
use Rattle.std.proofs.lemmas.List.Sums.{sum_by-append}
use Rattle.std.proofs.lemmas.Grind.{flat_map-append}
use Rattle.sig_base.specs.declared.checker.AcceptedRow.{AcceptedRow}
use Rattle.sig_questions.specs.Rows.{bytes_of_rows, row_bytes}
use Rattle.sig_questions.specs.Written.{AddsRows}
use Rattle.sig_questions.specs.declared.listing.NoQuestions.{NoQuestions}
use Rattle.sig_questions.specs.declared.listing.NoQuestions.TheVariants.{Link, TooLong, OutOfMemory}
use Rattle.sig_questions.specs.declared.rows.Rows.{Rows}

bytes_joined : (xs ys : List AcceptedRow) → bytes_of_rows (xs ++ ys) ≡ bytes_of_rows xs + bytes_of_rows ys
bytes_joined xs ys = sum_by-append row_bytes xs ys

-- both were added
pub both_written : (a b c : Rows) (xs ys : List AcceptedRow) (r : Result (Unit {0}) NoQuestions)
    → AddsRows a xs (Ok tt) b → AddsRows b ys r c → AddsRows a (xs ++ ys) r c
both_written a b c xs ys (Ok done) first next = (
  next.0 ∙ ap (λ (rows : List AcceptedRow). rows ++ ys) first.0 ∙ append_assoc a.rows xs ys,
  (let sum = bytes_joined xs ys in let one = first.1 in let two = next.1 in omega (arith, sum, one, two)),
)
both_written a b c xs ys (Err TooLong) first next =
    let sum = bytes_joined xs ys in let one = first.1 in let two : b.room < bytes_of_rows ys = next in
    omega (arith, sum, one, two)
both_written a b c xs ys (Err OutOfMemory) first next = tt
both_written a b c xs ys (Err (Link link)) first next = next

-- the first was not
pub not_written : (a b : Rows) (xs ys : List AcceptedRow) (e : NoQuestions) → AddsRows a xs (Err e) b
    → AddsRows a (xs ++ ys) (Err e) b
not_written a b xs ys TooLong fails =
    let sum = bytes_joined xs ys in let one : a.room < bytes_of_rows xs = fails in omega (arith, sum, one)
not_written a b xs ys OutOfMemory fails = tt
not_written a b xs ys (Link link) fails = fails

-- nothing was added
pub none_written : (a b : Rows) (e : List AcceptedRow) → e ≡ [] → b ≡ a → AddsRows a e (Ok tt) b
none_written a b e is same =
    subst (λ (x : List AcceptedRow). AddsRows a x (Ok tt) b) (sym is)
    (subst (λ (x : Rows). AddsRows a [] (Ok tt) x) (sym same) (nothing a))
  where
    nothing : (x : Rows) → AddsRows x [] (Ok tt) x
    nothing x = (sym (append-nil x.rows), omega arith)

-- ---- a loop

module _ {X : Type 0} (f : X → List AcceptedRow) (xs : List X) where
  pub begun : (a : Rows) → AddsRows a (flat_map f (take 0 xs)) (Ok tt) a
  begun a = none_written a a (flat_map f (take 0 xs)) refl refl

  one_more : (k : ℕ) (x : X) → k < length xs → x ≡ get_or xs k x
      → flat_map f (take (k + 1) xs) ≡ flat_map f (take k xs) ++ f x
  one_more k x lt is =
      ap (flat_map f) (take_more xs k x lt) ∙ flat_map-append f (take k xs) (get_or xs k x ∷ [])
      ∙ ap (λ (y : X). flat_map f (take k xs) ++ (f y ++ [])) (sym is)
      ∙ ap (λ (ys : List AcceptedRow). flat_map f (take k xs) ++ ys) (append-nil (f x))

  pub one_written : (a b c : Rows) (k : ℕ) (x : X) → k < length xs → x ≡ get_or xs k x
      → AddsRows a (flat_map f (take k xs)) (Ok tt) b → AddsRows b (f x) (Ok tt) c
      → AddsRows a (flat_map f (take (k + 1) xs)) (Ok tt) c
  one_written a b c k x lt is before now =
      subst (λ (rows : List AcceptedRow). AddsRows a rows (Ok tt) c) (sym (one_more k x lt is))
      (both_written a b c (flat_map f (take k xs)) (f x) (Ok tt) before now)

  cut : (k : ℕ) (ys : List X) → (rest : List X) × (take k ys ++ rest ≡ ys)
  cut zero ys = (ys, refl)
  cut (suc k) [] = ([], refl)
  cut (suc k) (y ∷ ys) = let found = cut k ys in (found.0, ap (λ (zs : List X). y ∷ zs) found.1)

  pub one_failed : (a b c : Rows) (k : ℕ) (x : X) (e : NoQuestions) → k < length xs → x ≡ get_or xs k x
      → AddsRows a (flat_map f (take k xs)) (Ok tt) b → AddsRows b (f x) (Err e) c
      → AddsRows a (flat_map f xs) (Err e) c
  one_failed a b c k x e lt is before now =
      let found = cut (k + 1) xs in
      let here : AddsRows a (flat_map f (take (k + 1) xs)) (Err e) c =
      subst (λ (rows : List AcceptedRow). AddsRows a rows (Err e) c) (sym (one_more k x lt is))
      (both_written a b c (flat_map f (take k xs)) (f x) (Err e) before now) in
      subst (λ (rows : List AcceptedRow). AddsRows a rows (Err e) c)
      (sym (flat_map-append f (take (k + 1) xs) found.0) ∙ ap (flat_map f) found.1)
      (not_written a c (flat_map f (take (k + 1) xs)) (flat_map f found.0) e here)
