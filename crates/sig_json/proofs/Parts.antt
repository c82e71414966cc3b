-- What is read where a part alone of each value is kept.
use Rattle.std.proofs.Common.{◌≡◌, ℕ, List, [], ◌∷◌, map, Option, Some, None, option_map, Result, Ok, Err, refl}
use Rattle.std.specs.Option.{ok_or}
use Rattle.std.specs.Result.{result_ok}
use Rattle.sig_base.specs.OptionSteps.{◌>>=◌}
use Rattle.sig_json.specs.Data.{Data, null, boolean, number, string, array, object}
use Rattle.sig_json.specs.Find.{get}
use Rattle.sig_json.specs.declared.error.DocumentError.{DocumentError}
use Rattle.sig_json.specs.declared.error.JsonError.TheVariants.{Member}
use Rattle.sig_json.specs.Document.{document_of}
use Rattle.sig_json.specs.List.{items_list}
use Rattle.sig_json.specs.Member.{not_null, member_of, there_or, required, optional, optional_or, each, list_each}
use Rattle.sig_json.specs.Record.{record_of, record_in}

module _ {A B : Type 0} (f : A → B) (kind : Data → Option A) (part : Data → Option B)
    (is_part : (d : Data) → part d ≡ option_map f (kind d)) where
  required_there : (found : Option (Option Data))
      → (found >>= there_or None part) ≡ option_map f (found >>= there_or None kind)
  required_there None = refl
  required_there (Some None) = refl
  required_there (Some (Some d)) = is_part d

  pub required-part : (name : List ℕ) (d : Data) → required part name d ≡ option_map f (required kind name d)
  unfolding required
  required-part name d = required_there (member_of name d)

  some_part : (found : Option A)
      → option_map Some (option_map f found) ≡ option_map (option_map f) (option_map Some found)
  some_part None = refl
  some_part (Some x) = refl

  optional_there : (found : Option (Option Data))
      → (found >>= there_or (Some None) (λ d. option_map Some (part d)))
      ≡ option_map (option_map f) (found >>= there_or (Some None) (λ d. option_map Some (kind d)))
  optional_there None = refl
  optional_there (Some None) = refl
  optional_there (Some (Some d)) = rw (is_part d) (some_part (kind d))

  pub optional-part : (name : List ℕ) (d : Data)
      → optional part name d ≡ option_map (option_map f) (optional kind name d)
  unfolding optional_or
  optional-part name d = optional_there (member_of name d)

  more_part : (found : Option A) (others : Option (List A))
      → (option_map f found >>= λ y. option_map (map f) others >>= λ ys. Some (y ∷ ys))
      ≡ option_map (map f) (found >>= λ x. others >>= λ xs. Some (x ∷ xs))
  more_part None others = refl
  more_part (Some x) None = refl
  more_part (Some x) (Some xs) = refl

  each-part : (ds : List Data) → each part ds ≡ option_map (map f) (each kind ds)
  each-part [] = refl
  each-part (d ∷ ds) = rw (is_part d, each-part ds) (more_part (kind d) (each kind ds))

  pub list_each-part : (d : Data) → list_each part d ≡ option_map (map f) (list_each kind d)
  unfolding list_each
  list_each-part null = refl
  list_each-part (boolean b) = refl
  list_each-part (number n) = refl
  list_each-part (string s) = refl
  list_each-part (array ds) = each-part (items_list ds)
  list_each-part (object ms) = refl

  or_part : (found : Option A)
      → result_ok (ok_or (option_map f found) Member) ≡ option_map f (result_ok (ok_or found Member))
  or_part None = refl
  or_part (Some x) = refl

  pub record_in-part : (text : List ℕ)
      → result_ok (record_in part text) ≡ option_map f (result_ok (record_in kind text))
  unfolding record_in
  record_in-part text = by_document (document_of text) where
    by_document : (document : Result Data DocumentError)
        → result_ok (record_of part document) ≡ option_map f (result_ok (record_of kind document))
    by_document (Err e) = refl
    by_document (Ok d) = rw (is_part d) (or_part (kind d))

-- a value with a required member is an object, and in an object an optional member of any form is never refused
pub optional-any : {A : Type 0} → (kind : Data → Option A) (name other : List ℕ) (d : Data) (x : A)
    → required kind name d ≡ Some x → (y : Option Data) × (optional Some other d ≡ Some y)
unfolding required optional_or member_of
optional-any kind name other null x read = cc
optional-any kind name other (boolean b) x read = cc
optional-any kind name other (number n) x read = cc
optional-any kind name other (string s) x read = cc
optional-any kind name other (array ds) x read = cc
optional-any kind name other (object ms) x read = any_there (get other (object ms) >>= not_null) where
  any_there : (found : Option Data)
      → (y : Option Data) × (there_or (Some None) (λ d. option_map Some (Some d)) found ≡ Some y)
  any_there None = (None, refl)
  any_there (Some d) = (Some d, refl)
