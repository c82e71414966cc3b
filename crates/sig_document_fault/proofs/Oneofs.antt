-- Of the members of a oneof at most one is there if and only if the oneof is read.
use Rattle.std.proofs.Common.{◌≡◌, ℕ, List, [], ◌∷◌, map, Bool, false, Option, Some, None, is_some}
use Rattle.std.proofs.Common.{refl, sym}
use Rattle.std.specs.List.{AllByRecursion, filter}
use Rattle.sig_base.specs.OptionSteps.{◌>>=◌}
use Rattle.sig_bundle.specs.Oneof.{alone, oneof}
use Rattle.sig_table.specs.Table.{at_most_one, is_empty}

module _ {A : Type 0} (test : List ℕ → Bool) where
  -- a test that says of each name whether its member is there
  abbrev pub Says : List (List ℕ × Option A) → Type 0
  Says = AllByRecursion (λ m. test m.0 ≡ is_some m.1)

  abbrev pub names : List (List ℕ × Option A) → List (List ℕ)
  names = map (λ m. m.0)

  abbrev pub values : List (List ℕ × Option A) → List (Option A)
  values = map (λ m. m.1)

  two_are_none : (x y : A) (found : Option (Option A)) → is_some ((found >>= alone y) >>= alone x) ≡ false
  two_are_none x y None = refl
  two_are_none x y (Some None) = refl
  two_are_none x y (Some (Some z)) = refl

  more_there : (members : List (List ℕ × Option A)) → Says members → (x : A)
      → is_empty (filter test (names members)) ≡ is_some (oneof (values members) >>= alone x)
  more_there [] says x = refl
  more_there ((name, None) ∷ members) says x = rw says.0 (more_there members says.1 x)
  more_there ((name, Some y) ∷ members) says x = rw says.0 (sym (two_are_none x y (oneof (values members))))

  pub oneof_there : (members : List (List ℕ × Option A)) → Says members
      → at_most_one (filter test (names members)) ≡ is_some (oneof (values members))
  oneof_there [] says = refl
  oneof_there ((name, None) ∷ members) says = rw says.0 (oneof_there members says.1)
  oneof_there ((name, Some x) ∷ members) says = rw says.0 (more_there members says.1 x)
