-- Whether one element of a list passes a test: by the same test, by two tests, and of pairs.
use Rattle.std.proofs.Common.{◌≡◌, Bool, true, false, ◌||◌, ◌&&◌, not, List, [], ◌∷◌, refl, sym, ap, ◌∙◌}
use Rattle.std.proofs.Math.Bool.{or_assoc}
use Rattle.std.specs.List.{list_all, list_any}
use Rattle.sig_policy.proofs.SetLaws.{or_swap}

pub any_same : {X : Type 0} (f g : X → Bool) → ((x : X) → f x ≡ g x) → (xs : List X) → list_any f xs ≡ list_any g xs
any_same f g same [] = refl
any_same f g same (x ∷ xs) =
    ap (λ (b : Bool). b || list_any f xs) (same x) ∙ ap (λ (b : Bool). g x || b) (any_same f g same xs)

pub any_none : {X : Type 0} (f : X → Bool) → ((x : X) → f x ≡ false) → (xs : List X) → list_any f xs ≡ false
any_none f none [] = refl
any_none f none (x ∷ xs) = ap (λ (b : Bool). b || list_any f xs) (none x) ∙ any_none f none xs

-- ---- each of two tests in turn

or_pairs : (a b c d : Bool) → ((a || b) || (c || d)) ≡ ((a || c) || (b || d))
or_pairs a b c d =
    or_assoc a b (c || d) ∙ ap (λ (w : Bool). a || w) (or_swap b c d) ∙ sym (or_assoc a c (b || d))

any_or : {X : Type 0} (f g : X → Bool) (xs : List X)
    → list_any (λ x. f x || g x) xs ≡ (list_any f xs || list_any g xs)
any_or f g [] = refl
any_or f g (x ∷ xs) =
    ap (λ (b : Bool). (f x || g x) || b) (any_or f g xs) ∙ or_pairs (f x) (g x) (list_any f xs) (list_any g xs)

pub exchange : {X Y : Type 0} (test : X → Y → Bool) (xs : List X) (ys : List Y)
    → list_any (λ x. list_any (test x) ys) xs ≡ list_any (λ y. list_any (λ x. test x y) xs) ys
exchange test [] ys = sym (any_none (λ y. false) (λ y. refl) ys)
exchange test (x ∷ xs) ys =
    ap (λ (b : Bool). list_any (test x) ys || b) (exchange test xs ys)
    ∙ sym (any_or (test x) (λ y. list_any (λ z. test z y) xs) ys)

-- ---- all pass if and only if none fails

pub neither : (a b : Bool) → not (a || b) ≡ (not a && not b)
neither true b = refl
neither false b = refl

both : (a b : Bool) → (a && not b) ≡ not (not a || b)
both true b = refl
both false b = refl

pub all_unless : {X : Type 0} (f : X → Bool) (xs : List X) → list_all f xs ≡ not (list_any (λ x. not (f x)) xs)
all_unless f [] = refl
all_unless f (x ∷ xs) =
    ap (λ (b : Bool). f x && b) (all_unless f xs) ∙ both (f x) (list_any (λ y. not (f y)) xs)
