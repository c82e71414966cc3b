-- Tables beside kinds, row by row: a record that is read by steps, one a row, has the table of these rows.
use Rattle.std.proofs.Common.{◌≡◌, ℕ, List, [], ◌∷◌, Bool, true, false, ◌&&◌, Option, Some, None, is_none, is_some, option_map}
use Rattle.std.proofs.Common.{refl, sym, ap, ◌∙◌}
use Rattle.std.specs.List.{list_all}
use Rattle.sig_base.specs.OptionSteps.{◌>>=◌}
use Rattle.sig_json.specs.Data.{Data, null, boolean, number, string, array, object, Members}
use Rattle.sig_json.specs.Find.{as_object}
use Rattle.sig_json.specs.Integer.{integer_of}
use Rattle.sig_json.specs.List.{list_of}
use Rattle.sig_json.specs.Member.{each, list_each, member_of, optional, optional_or, required, there_or}
use Rattle.sig_table.specs.Kinds.{beyond_range, not_in_range, other_kind, unless}
use Rattle.sig_table.specs.Table.{Table, leaf, elements, members, optional_row, required_row, each_passes, fits}
use Rattle.sig_table.specs.Table.{member_in, no_rows, passes, row, row_holds}
use Rattle.sig_table.specs.TableOf.{IsTableOf}
use Rattle.sig_table.specs.declared.fault.Cause.{Cause}
use Rattle.sig_table.specs.declared.fault.Cause.TheVariants.{OtherKind}

-- ---- single values

not_wrong : (b : Bool) (cause : Cause) → is_none (unless b cause) ≡ b
not_wrong true cause = refl
not_wrong false cause = refl

pub other_kind_table : {A : Type 0} → (kind : Data → Option A) → IsTableOf kind (leaf (other_kind kind))
other_kind_table kind d = not_wrong (is_some (kind d)) OtherKind

pub beyond_range_table : {A : Type 0} → (kind : Data → Option A) → IsTableOf kind (leaf (beyond_range kind))
beyond_range_table kind d = not_wrong (is_some (kind d)) (not_in_range (integer_of d))

-- ---- a step, and what is left

pub step : {A B : Type 0} → (found : Option A) (next : A → Option B) (holds rest : Bool) → holds ≡ is_some found
    → ((x : A) → found ≡ Some x → rest ≡ is_some (next x)) → (holds && rest) ≡ is_some (found >>= next)
step None next holds rest is goes_on = rw is refl
step (Some x) next holds rest is goes_on = rw is (goes_on x refl)

-- the last row of a record that is its value
pub last_row : {A : Type 0} → (found : Option A) (holds : Bool) → holds ≡ is_some found → (holds && true) ≡ is_some found
last_row found true is = is
last_row found false is = is

pub some_of-map : {A B : Type 0} → (f : A → B) (found : Option A) → is_some found ≡ is_some (option_map f found)
some_of-map f None = refl
some_of-map f (Some x) = refl

-- ---- lists

pub each_some : {A : Type 0} → (kind : Data → Option A) (table : Table) → IsTableOf kind table → (ds : List Data)
    → list_all (fits table) ds ≡ is_some (each kind ds)
each_some {A} kind table is [] = refl
each_some {A} kind table is (d ∷ ds) =
    step (kind d) (λ x. each kind ds >>= λ xs. Some (x ∷ xs)) (fits table d) (list_all (fits table) ds) (is d)
    (λ x _. each_some kind table is ds ∙ some_of-map (λ xs. x ∷ xs) (each kind ds) ∙ as_step x (each kind ds))
  where
    as_step : (x : A) (found : Option (List A))
        → is_some (option_map (λ xs. x ∷ xs) found) ≡ is_some (found >>= λ xs. Some (x ∷ xs))
    as_step x None = refl
    as_step x (Some xs) = refl

pub elements_table : {A : Type 0} → (kind : Data → Option A) (table : Table) → IsTableOf kind table
    → IsTableOf (list_each kind) (elements table)
unfolding list_each
elements_table kind table is d = by_list (list_of d) where
  by_list : (found : Option (List Data)) → each_passes (fits table) found ≡ is_some (found >>= each kind)
  by_list None = refl
  by_list (Some ds) = each_some kind table is ds

-- ---- rows

pub option_table : {A : Type 0} → (kind : Data → Option A) (table : Table) → IsTableOf kind table
    → IsTableOf (λ d. option_map Some (kind d)) table
option_table kind table is d = is d ∙ some_of-map Some (kind d)

pub required_holds : {A : Type 0} → (kind : Data → Option A) (table : Table) → IsTableOf kind table → (name : List ℕ)
    (ms : Members) → row_holds (required_row name table) (object ms) ≡ is_some (required kind name (object ms))
unfolding required member_of
required_holds kind table is name ms = there (member_in name (object ms)) where
  there : (found : Option Data) → passes false (fits table) found ≡ is_some (there_or None kind found)
  there None = refl
  there (Some d) = is d

pub optional_or_holds : {A : Type 0} → (absent : A) (kind : Data → Option A) (table : Table) → IsTableOf kind table
    → (name : List ℕ) (ms : Members)
    → row_holds (optional_row name table) (object ms) ≡ is_some (optional_or absent kind name (object ms))
unfolding optional_or member_of
optional_or_holds absent kind table is name ms = there (member_in name (object ms)) where
  there : (found : Option Data) → passes true (fits table) found ≡ is_some (there_or (Some absent) kind found)
  there None = refl
  there (Some d) = is d

pub optional_holds : {A : Type 0} → (kind : Data → Option A) (table : Table) → IsTableOf kind table → (name : List ℕ)
    (ms : Members) → row_holds (optional_row name table) (object ms) ≡ is_some (optional kind name (object ms))
optional_holds kind table is =
    optional_or_holds None (λ d. option_map Some (kind d)) table (option_table kind table is)

-- an optional member is read as one that is there if and only if it is
pub optional_there : {A : Type 0} → (kind : Data → Option A) (name : List ℕ) (ms : Members) (read : Option A)
    → optional kind name (object ms) ≡ Some read → is_some (member_in name (object ms)) ≡ is_some read
unfolding optional_or member_of
optional_there {A} kind name ms read is = there (member_in name (object ms)) is where
  value_there : (found : Option A) → option_map Some found ≡ Some read → true ≡ is_some read
  value_there None is = cc
  value_there (Some x) is = let same : Some x ≡ read = cc in ap is_some same

  there : (found : Option Data) → there_or (Some None) (λ d. option_map Some (kind d)) found ≡ Some read
      → is_some found ≡ is_some read
  there None is = let same : None ≡ read = cc in ap is_some same
  there (Some d) is = value_there (kind d) is

-- ---- records

-- a kind and a table of objects alone
pub record_is : {A : Type 0} → (kind : Data → Option A) (table : Table)
    → ((ms : Members) → fits table (object ms) ≡ is_some (kind (object ms)))
    → ((d : Data) → as_object d ≡ None → kind d ≡ None) → ((d : Data) → as_object d ≡ None → fits table d ≡ false)
    → IsTableOf kind table
record_is kind table is unread unfit null = unfit null refl ∙ sym (ap is_some (unread null refl))
record_is kind table is unread unfit (boolean b) = unfit (boolean b) refl ∙ sym (ap is_some (unread (boolean b) refl))
record_is kind table is unread unfit (number n) = unfit (number n) refl ∙ sym (ap is_some (unread (number n) refl))
record_is kind table is unread unfit (string s) = unfit (string s) refl ∙ sym (ap is_some (unread (string s) refl))
record_is kind table is unread unfit (array ds) = unfit (array ds) refl ∙ sym (ap is_some (unread (array ds) refl))
record_is kind table is unread unfit (object ms) = is ms

pub not_optional : {A : Type 0} → (absent : A) (kind : Data → Option A) (name : List ℕ) (d : Data) → as_object d ≡ None
    → optional_or absent kind name d ≡ None
unfolding optional_or member_of
not_optional absent kind name d none = rw none refl

pub not_required : {A : Type 0} → (kind : Data → Option A) (name : List ℕ) (d : Data) → as_object d ≡ None
    → required kind name d ≡ None
unfolding required member_of
not_required kind name d none = rw none refl

-- a record of one optional member, which is its value
pub one_member : {A : Type 0} → (absent : A) (kind : Data → Option A) (table : Table) → IsTableOf kind table
    → (name : List ℕ) → IsTableOf (optional_or absent kind name) (members (row (optional_row name table) no_rows))
one_member absent kind table is name =
    record_is (optional_or absent kind name) (members (row (optional_row name table) no_rows))
    (λ ms. last_row (optional_or absent kind name (object ms)) _ (optional_or_holds absent kind table is name ms))
    (not_optional absent kind name) (λ d none. rw none refl)
