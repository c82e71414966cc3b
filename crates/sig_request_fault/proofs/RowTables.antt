-- The tables of accepted signatures and of a log's entries are those of their records.
use Rattle.std.proofs.Common.{◌≡◌, ℕ, List, codes, Bool, true, false, ◌&&◌, Option, Some, None, is_some, refl, sym, ◌∙◌}
use Rattle.sig_base.specs.OptionSteps.{◌>>=◌}
use Rattle.sig_base.specs.declared.checker.Operation.{Operation}
use Rattle.sig_base.specs.declared.checker.Operation.TheVariants.{Message, Prehash, Point, Certificate}
use Rattle.sig_json.specs.Data.{Data, Members, object}
use Rattle.sig_json.specs.Kinds.{bytes_of, hash_of, i64_of, text_of, u64_of}
use Rattle.sig_json.specs.Member.{member_of, required, there_or}
use Rattle.sig_request.specs.Row.{accepted_of, entries_of, no_kind, operation_kind, row_of, scheme_for, scheme_kind}
use Rattle.sig_request_fault.specs.RowTable.{accepted_table, entries_table, operation_in, operation_table, row_table}
use Rattle.sig_request_fault.specs.RowTable.{scheme_row, scheme_table}
use Rattle.sig_table.proofs.RecordTables.{beyond_range_table, elements_table, not_required, optional_holds, other_kind_table}
use Rattle.sig_table.proofs.RecordTables.{record_is, required_holds, step}
use Rattle.sig_table.specs.Chosen.{nothing_table}
use Rattle.sig_table.specs.Kinds.{bytes_table, hash_table, i64_table, text_table, u64_table}
use Rattle.sig_table.specs.Table.{member_in, row_holds}
use Rattle.sig_table.specs.TableOf.{IsTableOf}

-- ---- single values

pub bytes_is : IsTableOf bytes_of bytes_table
bytes_is = other_kind_table bytes_of

pub text_is : IsTableOf text_of text_table
text_is = other_kind_table text_of

pub hash_is : IsTableOf hash_of hash_table
hash_is = other_kind_table hash_of

pub i64_is : IsTableOf i64_of i64_table
i64_is = beyond_range_table i64_of

pub u64_is : IsTableOf u64_of u64_table
u64_is = beyond_range_table u64_of

pub nothing_is : IsTableOf no_kind nothing_table
nothing_is d = refl

pub scheme_is : IsTableOf scheme_kind scheme_table
unfolding scheme_table
scheme_is = other_kind_table scheme_kind

operation_is : IsTableOf operation_kind operation_table
unfolding operation_table
operation_is = other_kind_table operation_kind

pub entries_is : IsTableOf entries_of entries_table
unfolding entries_table
entries_is = elements_table bytes_of bytes_table bytes_is

-- ---- an accepted signature

pub and_false : (a : Bool) → (a && false) ≡ false
and_false true = refl
and_false false = refl

-- what is read is made into something else
pub made : {A B : Type 0} → (found : Option A) (f : A → B) → is_some found ≡ is_some (found >>= λ x. Some (f x))
made None f = refl
made (Some x) f = refl

-- a required member is the one that is there
pub required_there : {A : Type 0} → (kind : Data → Option A) (name : List ℕ) (ms : Members)
    → required kind name (object ms) ≡ (member_in name (object ms) >>= kind)
unfolding required member_of
required_there kind name ms = there (member_in name (object ms)) where
  there : (found : Option Data) → there_or None kind found ≡ (found >>= kind)
  there None = refl
  there (Some d) = refl

scheme_holds : (ms : Members) (operation : Operation)
    → row_holds (scheme_row (Some operation)) (object ms) ≡ is_some (scheme_for operation (object ms))
scheme_holds ms Message =
    required_holds scheme_kind scheme_table scheme_is (codes "scheme") ms
    ∙ made (required scheme_kind (codes "scheme") (object ms)) _
scheme_holds ms Prehash =
    required_holds scheme_kind scheme_table scheme_is (codes "scheme") ms
    ∙ made (required scheme_kind (codes "scheme") (object ms)) _
scheme_holds ms Point = optional_holds no_kind nothing_table nothing_is (codes "scheme") ms ∙ made _ _
scheme_holds ms Certificate = required_holds bytes_of bytes_table bytes_is (codes "scheme") ms

-- the operation is the one that was read
scheme_there : (ms : Members) (operation : Operation) (found : Option Operation) → found ≡ Some operation
    → row_holds (scheme_row found) (object ms) ≡ is_some (scheme_for operation (object ms))
scheme_there ms operation found is = rw is (scheme_holds ms operation)

pub row_is : IsTableOf row_of row_table
unfolding row_table row_of
row_is =
    record_is row_of row_table
    (λ ms. step _ _ _ _ (required_holds operation_kind operation_table operation_is (codes "operation") ms)
    (λ operation read. step _ _ _ _ (scheme_there ms operation (operation_in (object ms))
    (sym (required_there operation_kind (codes "operation") ms) ∙ read))
    (λ _ _. step _ _ _ _ (required_holds bytes_of bytes_table bytes_is (codes "key") ms)
    (λ _ _. step _ _ _ _ (required_holds bytes_of bytes_table bytes_is (codes "message") ms)
    (λ _ _. step _ _ _ _ (required_holds bytes_of bytes_table bytes_is (codes "signature") ms)
    (λ _ _. refl))))))
    (λ d none. rw (not_required operation_kind (codes "operation") d none) refl)
    (λ d none. rw none refl)

pub accepted_is : IsTableOf accepted_of accepted_table
unfolding accepted_table
accepted_is = elements_table row_of row_table row_is
