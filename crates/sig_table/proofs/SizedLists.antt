-- Lists of so many elements beside their tables.
use Rattle.std.proofs.Common.{◌≡◌, ℕ, List, [], ◌∷◌, length, Bool, true, false, ◌&&◌, if◌then◌else◌, is_some, Option, Some}
use Rattle.std.proofs.Common.{None, refl, sym, ap, ◌∙◌}
use Rattle.sig_base.proofs.OptionSteps.{bind_is, some_is}
use Rattle.sig_base.specs.OptionSteps.{◌>>=◌}
use Rattle.sig_json.specs.Data.{Data}
use Rattle.sig_json.specs.List.{list_of}
use Rattle.sig_json.specs.Member.{each, list_each}
use Rattle.sig_table.proofs.RecordTables.{each_some}
use Rattle.sig_table.specs.Chosen.{length_cause, sized, wrong_or}
use Rattle.sig_table.specs.Kinds.{unless}
use Rattle.sig_table.specs.Table.{Table, elements, fits}
use Rattle.sig_table.specs.TableOf.{IsTableOf}
use Rattle.sig_table.specs.declared.fault.Cause.TheVariants.{BeyondRange}

-- a list of as many as a test allows
abbrev pub as_many : {A : Type 0} → (ℕ → Bool) → List A → Option (List A)
as_many test xs = if test (length xs) then Some xs else None

abbrev pub sized_of : {A : Type 0} → (Data → Option A) → (ℕ → Bool) → Data → Option (List A)
sized_of kind test d = list_each kind d >>= as_many test

-- each element is read as one
pub each_length : {A : Type 0} → (kind : Data → Option A) (ds : List Data) (xs : List A) → each kind ds ≡ Some xs
    → length ds ≡ length xs
each_length kind [] xs e = ap (λ l. length l) (some_is [] xs e)
each_length kind (d ∷ ds) xs e =
    let first = bind_is (kind d) _ xs e in
    let others = bind_is (each kind ds) _ xs first.2 in
    rw (sym (some_is (first.0 ∷ others.0) xs others.2), each_length kind ds others.0 others.1) refl

module _ {A : Type 0} (test : ℕ → Bool) where
  many_some : (found : Option (List A)) (n : ℕ) (b : Bool) → ((xs : List A) → found ≡ Some xs → n ≡ length xs)
      → test n ≡ b → (b && is_some found) ≡ is_some (found >>= as_many test)
  many_some None n true same is = refl
  many_some None n false same is = refl
  many_some (Some xs) n true same is = rw (sym (same xs refl), is) refl
  many_some (Some xs) n false same is = rw (sym (same xs refl), is) refl

  module _ (kind : Data → Option A) (t : Table) (is : IsTableOf kind t) where
    by_test : (d : Data) (ds : List Data) (b : Bool) → list_of d ≡ Some ds
        → fits (wrong_or (elements t) (unless b BeyondRange)) d ≡ (b && is_some (each kind ds))
    by_test d ds true listed = rw listed (each_some kind t is ds)
    by_test d ds false listed = refl

    by_list : (d : Data) (found : Option (List Data)) → list_of d ≡ found
        → fits (wrong_or (elements t) (length_cause test found)) d ≡ is_some ((found >>= each kind) >>= as_many test)
    by_list d None listed = rw listed refl
    by_list d (Some ds) listed =
        by_test d ds (test (length ds)) listed
        ∙ many_some (each kind ds) (length ds) (test (length ds)) (each_length kind ds) refl

    pub sized_table : IsTableOf (sized_of kind test) (sized test t)
    unfolding list_each
    sized_table d = by_list d (list_of d) refl
