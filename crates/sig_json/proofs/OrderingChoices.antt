-- Of three, the one that an ordering chooses.
use Rattle.std.proofs.Common.{◌≡◌, refl}
use Rattle.std.specs.Ordering.{match_ordering}
use Rattle.std.specs.declared.cmp.Ordering.{Ordering}
use Rattle.std.specs.declared.cmp.Ordering.TheVariants.{Less, Equal, Greater}

-- what holds of each holds of it
pub holds_of_choice : {A : Type 0} (P : A → Type 0) (o : Ordering) (a b c : A) → P a → P b → P c
    → P (match_ordering o a b c)
holds_of_choice P Less a b c p q r = p
holds_of_choice P Equal a b c p q r = q
holds_of_choice P Greater a b c p q r = r

pub choice_of_each : {A B : Type 0} (f : A → B) (o : Ordering) (a b c : A)
    → f (match_ordering o a b c) ≡ match_ordering o (f a) (f b) (f c)
choice_of_each f Less a b c = refl
choice_of_each f Equal a b c = refl
choice_of_each f Greater a b c = refl
