-- Tests that decide a fact, as the `==` of a type does of its parts.
use Rattle.std.proofs.Common.{◌≡◌, ℕ, List, Bool, refl, subst, sym}
use Rattle.std.proofs.lemmas.Slice.Eq.{bytes_eq-Decides, slice_eq-Decides}
use Rattle.std.specs.Bool.{Decides, one_answer}
use Rattle.std.specs.Cmp.{unsigned_Decides}
use Rattle.std.specs.Cmp.Lexicographic.{pointwise}
use Rattle.std.specs.Prelude.{nat_eq}
use Rattle.std.specs.Str.{bytes_eq}

-- a test decides each fact that is equivalent to the one that it decides
pub decides_same : {P Q : Type 0} → (p : Bool) → (P → Q) → (Q → P) → Decides p P → Decides p Q
decides_same p there back decides = (λ e. there (decides.0 e), λ q. decides.1 (back q))

-- a result that equals a test decides what the test decides
pub decides_result : {P : Type 0} → (r p : Bool) → r ≡ p → Decides p P → Decides r P
decides_result {P} r p is decides = subst (λ b. Decides b P) (sym is) decides

pub decides_bytes : (a b : List ℕ) → Decides (pointwise nat_eq a b) (a ≡ b)
decides_bytes a b = slice_eq-Decides unsigned_Decides a b (pointwise nat_eq a b) refl

-- which of two lists of bytes is named first does not matter to their equality
pub bytes_eq_flip : (xs ys : List ℕ) → bytes_eq xs ys ≡ bytes_eq ys xs
bytes_eq_flip xs ys =
    one_answer (bytes_eq xs ys) (bytes_eq ys xs) (bytes_eq-Decides xs ys)
    ((λ e. sym ((bytes_eq-Decides ys xs).0 e)), (λ e. (bytes_eq-Decides ys xs).1 (sym e)))
