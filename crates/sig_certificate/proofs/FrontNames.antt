-- The names at the front of bytes, as an iterator gives them.
use Rattle.std.proofs.Common.{◌≡◌, ℕ, zero, suc, ◌≤◌, true, false, List, [], ◌∷◌, length, Option, Some, None, refl}
use Rattle.std.proofs.Common.{sym, ap, ◌∙◌, arith}
use Rattle.std.specs.Prelude.{is_some}
use Rattle.sig_base.proofs.OptionSteps.{bind_is, some_is}
use Rattle.sig_der.specs.FrontReaders.{many_within, many_at}
use Rattle.sig_certificate.specs.Names.{Name, name_at}
use Rattle.sig_certificate.specs.BorrowedNames.{then_names, front_names_within, front_names}
use Rattle.sig_certificate.proofs.WalkLaws.{name_at_shrinks}

-- ---- the number of readings does not matter once it suffices

same_names : (go1 go2 : List ℕ → List Name) (o : Option (Name × List ℕ))
    → ((x : Name × List ℕ) → o ≡ Some x → go1 x.1 ≡ go2 x.1) → then_names go1 o ≡ then_names go2 o
same_names go1 go2 None h = refl
same_names go1 go2 (Some x) h = ap (λ (w : List Name). x.0 ∷ w) (h x refl)

none_first : (go : List ℕ → List Name) (o : Option (Name × List ℕ)) → ((x : Name × List ℕ) → o ≡ Some x → ⊥)
    → then_names go o ≡ []
none_first go None h = refl
none_first go (Some x) h = absurd (h x refl)

enough : (m n : ℕ) (bytes : List ℕ) → length bytes ≤ m → length bytes ≤ n
    → front_names_within m bytes ≡ front_names_within n bytes
unfolding front_names_within
enough zero zero bytes a b = refl
enough zero (suc n) bytes a b =
    sym (none_first (front_names_within n) (name_at bytes)
    (λ y is. let less = name_at_shrinks bytes y is in omega arith))
enough (suc m) zero bytes a b =
    none_first (front_names_within m) (name_at bytes) (λ y is. let less = name_at_shrinks bytes y is in omega arith)
enough (suc m) (suc n) bytes a b =
    same_names (front_names_within m) (front_names_within n) (name_at bytes)
    (λ y is. let less = name_at_shrinks bytes y is in enough m n y.1 (omega arith) (omega arith))

-- ---- one name

pub front_names_none : (bytes : List ℕ) → name_at bytes ≡ None → front_names bytes ≡ []
unfolding front_names front_names_within
front_names_none bytes is = at (length bytes)
  where
    at : (n : ℕ) → front_names_within n bytes ≡ []
    at zero = refl
    at (suc n) = ap (λ (o : Option (Name × List ℕ)). then_names (front_names_within n) o) is

some_within : (n : ℕ) (bytes : List ℕ) (x : Name × List ℕ) → name_at bytes ≡ Some x → length bytes ≤ n
    → front_names_within n bytes ≡ x.0 ∷ front_names_within (length x.1) x.1
unfolding front_names_within
some_within zero bytes x is enough_bytes = absurd (let less = name_at_shrinks bytes x is in omega arith)
some_within (suc n) bytes x is enough_bytes =
    let less = name_at_shrinks bytes x is in
    ap (λ (o : Option (Name × List ℕ)). then_names (front_names_within n) o) is
    ∙ ap (λ (w : List Name). x.0 ∷ w) (enough n (length x.1) x.1 (omega arith) (omega arith))

pub front_names_some : (bytes : List ℕ) (x : Name × List ℕ) → name_at bytes ≡ Some x
    → front_names bytes ≡ x.0 ∷ front_names x.1
unfolding front_names
front_names_some bytes x is = some_within (length bytes) bytes x is (omega arith)

-- ---- bytes that are names and nothing else

nothing_left : front_names [] ≡ []
unfolding front_names front_names_within
nothing_left = refl

within_names : (n : ℕ) (bytes : List ℕ) (names : List Name) → many_within name_at n bytes ≡ Some names
    → front_names bytes ≡ names
unfolding many_within
within_names n [] names e = nothing_left ∙ some_is [] names e
within_names zero (b ∷ bytes) names e = absurd cc
within_names (suc n) (b ∷ bytes) names e =
    let first = bind_is (name_at (b ∷ bytes)) _ names e in
    let others = bind_is (many_within name_at n first.0.1) _ names first.2 in
    front_names_some (b ∷ bytes) first.0 first.1
    ∙ ap (λ (w : List Name). first.0.0 ∷ w) (within_names n first.0.1 others.0 others.1)
    ∙ some_is (first.0.0 ∷ others.0) names others.2

some_names : (o : Option (List Name)) (front : List Name) → ((names : List Name) → o ≡ Some names → front ≡ names)
    → is_some o ≡ true → o ≡ Some front
some_names None front h e = absurd cc
some_names (Some names) front h e = ap (λ (w : List Name). Some w) (sym (h names refl))

pub all_names : (bytes : List ℕ) → is_some (many_at name_at bytes) ≡ true
    → many_at name_at bytes ≡ Some (front_names bytes)
unfolding many_at
all_names bytes is = some_names (many_at name_at bytes) (front_names bytes) found is
  where
    found : (names : List Name) → many_at name_at bytes ≡ Some names → front_names bytes ≡ names
    found names e = within_names (length bytes) bytes names e

pub no_names : (bytes : List ℕ) → is_some (many_at name_at bytes) ≡ false → many_at name_at bytes ≡ None
no_names bytes is = without (many_at name_at bytes) is
  where
    without : (o : Option (List Name)) → is_some o ≡ false → o ≡ None
    without None e = refl
    without (Some names) e = absurd cc

pub ruleset are_names = (all_names, no_names)
