-- The derived `==` of lists of texts, and of what may be absent, is equality.
use Rattle.std.proofs.Common.{◌≡◌, ℕ, List, Bool, Option, Some, None, refl, ap}
use Rattle.std.proofs.lemmas.Slice.Eq.{slice_eq-Decides}
use Rattle.std.specs.Bool.{Decides}
use Rattle.std.specs.Cmp.Lexicographic.{pointwise}
use Rattle.std.specs.Option.{option_eq}
use Rattle.std.specs.Prelude.{nat_eq}
use Rattle.sig_base.proofs.Decisions.{decides_bytes}

pub decides_texts : (a b : List (List ℕ)) → Decides (pointwise (pointwise nat_eq) a b) (a ≡ b)
decides_texts a b = slice_eq-Decides decides_bytes a b (pointwise (pointwise nat_eq) a b) refl

pub decides_option : {A : Type 0} → (E : A → A → Bool) → ((a b : A) → Decides (E a b) (a ≡ b)) → (x y : Option A)
    → Decides (option_eq E x y) (x ≡ y)
decides_option E tells None None = (λ _. refl, λ _. refl)
decides_option E tells None (Some y) = (λ e. absurd cc, λ e. absurd cc)
decides_option E tells (Some x) None = (λ e. absurd cc, λ e. absurd cc)
decides_option E tells (Some x) (Some y) = (λ e. ap Some ((tells x y).0 e), λ e. (tells x y).1 cc)
