-- The elements of a list in turn, by their indices: what was made of those before, and those that are left.
use Rattle.std.proofs.Common.{◌≡◌, ℕ, ◌+◌, ◌<◌, ◌≤◌, List, [], ◌∷◌, ◌++◌, length, drop, get_or, Result, Ok, Err}
use Rattle.std.proofs.Common.{refl, sym, ap, ◌∙◌, append_assoc, append-nil}
use Rattle.std.proofs.lemmas.List.{drop_more, drop_all}
use Rattle.sig_base.specs.ResultSteps.{◌>>=◌, each_from}

-- what was made so far, and what is made of the elements that are left from this index on
abbrev pub with_left : {A B E : Type 0} → (ℕ → A → Result B E) → List B → ℕ → List A → Result (List B) E
with_left step made index all = each_from step index (drop index all) >>= λ others. Ok (made ++ others)

pub nothing_before : {B E : Type 0} (found : Result (List B) E) → found ≡ (found >>= λ others. Ok ([] ++ others))
nothing_before (Ok made) = refl
nothing_before (Err e) = refl

pub more_made : {B E : Type 0} (made more : List B) (found : Result (List B) E)
    → ((found >>= λ others. Ok (more ++ others)) >>= λ others. Ok (made ++ others)) ≡
    (found >>= λ others. Ok ((made ++ more) ++ others))
more_made made more (Ok others) = ap Ok (sym (append_assoc made more others))
more_made made more (Err e) = refl

pub left-all : {A B E : Type 0} (step : ℕ → A → Result B E) (all : List A)
    → each_from step 0 all ≡ with_left step [] 0 all
left-all step all = nothing_before (each_from step 0 all)

left_is : {A B E : Type 0} (step : ℕ → A → Result B E) (all : List A) (made : List B) (index : ℕ) (x : A)
    → index < length all → x ≡ get_or all index x
    → with_left step made index all ≡
    (each_from step index (x ∷ drop (index + 1) all) >>= λ others. Ok (made ++ others))
left_is step all made index x below here =
    ap (λ xs. each_from step index xs >>= λ others. Ok (made ++ others))
    (drop_more all index x below ∙ ap (λ y. y ∷ drop (index + 1) all) (sym here))

pub left-more : {A B E : Type 0} (step : ℕ → A → Result B E) (all : List A) (made after : List B) (index : ℕ) (x : A)
    (y : B) (whole : Result (List B) E) → whole ≡ with_left step made index all → index < length all
    → x ≡ get_or all index x → Ok y ≡ step index x → after ≡ made ++ y ∷ []
    → whole ≡ with_left step after (index + 1) all
left-more step all made after index x y whole so_far below here is pushed =
    so_far ∙ left_is step all made index x below here
    ∙ rw (← is, pushed) (more_made made (y ∷ []) (each_from step (index + 1) (drop (index + 1) all)))

pub left-fails : {A B E : Type 0} (step : ℕ → A → Result B E) (all : List A) (made : List B) (index : ℕ) (x : A) (e : E)
    (whole : Result (List B) E) → whole ≡ with_left step made index all → index < length all
    → x ≡ get_or all index x → Err e ≡ step index x → whole ≡ Err e
left-fails step all made index x e whole so_far below here is =
    so_far ∙ left_is step all made index x below here ∙ rw (← is) refl

pub left-done : {A B E : Type 0} (step : ℕ → A → Result B E) (all : List A) (made : List B) (index : ℕ)
    (whole : Result (List B) E) → whole ≡ with_left step made index all → length all ≤ index → whole ≡ Ok made
left-done step all made index whole so_far end =
    so_far ∙ rw (drop_all index all end) (ap Ok (append-nil made))

pub ruleset each_left = (left-all, left-more, left-fails, left-done)
