-- The table of requests of `witness` is that of the requests.
use Rattle.std.proofs.Common.{◌≡◌, ◌+◌, ℕ, List, [], ◌∷◌, length, codes, Bool, true, false, ◌&&◌, nat_le, nat_lt}
use Rattle.std.proofs.Common.{if◌then◌else◌, Option, Some, None, is_some, refl, sym, ap, ◌∙◌, arith, le-leb, le-ltb, leb-false}
use Rattle.std.proofs.Common.{leb-true, lt-ltb}
use Rattle.sig_base.specs.OptionSteps.{◌>>=◌}
use Rattle.sig_base.specs.declared.checker.AcceptedRow.{AcceptedRow}
use Rattle.sig_json.specs.Data.{Data, Members, object}
use Rattle.sig_json.specs.Kinds.{bytes_of, hash_of, text_of, u64_of}
use Rattle.sig_json.specs.Member.{list_each, member_of, optional_list, optional_or, there_or}
use Rattle.sig_request.specs.Row.{scheme_kind}
use Rattle.sig_request_fault.proofs.RequestTables.{all_then, holds, rows_first, rows_unread}
use Rattle.sig_request_fault.proofs.RowTables.{bytes_is, hash_is, scheme_is, text_is, u64_is}
use Rattle.sig_request_fault.specs.RowTable.{scheme_table}
use Rattle.sig_table.proofs.SizedLists.{as_many, sized_of, sized_table}
use Rattle.sig_table.proofs.RecordTables.{elements_table, not_required, optional_or_holds, record_is, required_holds, step}
use Rattle.sig_table.specs.Chosen.{is_between}
use Rattle.sig_table.specs.Kinds.{bytes_table, hash_table, text_table, u64_table}
use Rattle.sig_table.specs.Table.{elements, member_in, optional_row, row_holds}
use Rattle.sig_table.specs.TableOf.{IsTableOf}
use Rattle.sig_witness_command.specs.Request.{few_updates, origin_key_of, update_text_of, witness_members, witness_request}
use Rattle.sig_witness_command.specs.declared.request.OriginKey.{OriginKey}
use Rattle.sig_witness_command.specs.declared.request.UpdateText.{UpdateText}
use Rattle.sig_witness_command.specs.declared.request.WitnessRequest.{WitnessRequest}
use Rattle.sig_witness_fault.specs.WitnessTable.{origin_table, update_table, updates_table, witness_table}

-- ---- an origin, and an update

origin_is : IsTableOf origin_key_of origin_table
unfolding origin_table origin_key_of
origin_is =
    record_is origin_key_of origin_table
    (λ ms. step _ _ _ _ (required_holds text_of text_table text_is (codes "origin") ms)
    (λ _ _. step _ _ _ _ (required_holds scheme_kind scheme_table scheme_is (codes "scheme") ms)
    (λ _ _. step _ _ _ _ (required_holds bytes_of bytes_table bytes_is (codes "key") ms)
    (λ _ _. refl))))
    (λ d none. rw (not_required text_of (codes "origin") d none) refl)
    (λ d none. rw none refl)

hashes_are : (ms : Members) → row_holds (optional_row (codes "hashes") (elements hash_table)) (object ms)
    ≡ is_some (optional_list hash_of (codes "hashes") (object ms))
hashes_are =
    optional_or_holds [] (list_each hash_of) (elements hash_table) (elements_table hash_of hash_table hash_is)
    (codes "hashes")

update_is : IsTableOf update_text_of update_table
unfolding update_table update_text_of
update_is =
    record_is update_text_of update_table
    (λ ms. step _ _ _ _ (required_holds text_of text_table text_is (codes "checkpoint") ms)
    (λ _ _. step _ _ _ _ (required_holds u64_of u64_table u64_is (codes "oldSize") ms)
    (λ _ _. step _ _ _ _ (hashes_are ms)
    (λ _ _. refl))))
    (λ d none. rw (not_required text_of (codes "checkpoint") d none) refl)
    (λ d none. rw none refl)

-- ---- at most 4,096 updates

few_are : IsTableOf (sized_of update_text_of (is_between 0 4096)) updates_table
unfolding updates_table
few_are = sized_table (is_between 0 4096) update_text_of update_table update_is

if_some : {A : Type 0} → (b : Bool) (x : A) → is_some (if b then Some x else None) ≡ b
if_some true x = refl
if_some false x = refl

and_true : (b : Bool) → (b && true) ≡ b
and_true true = refl
and_true false = refl

to_most : (n most : ℕ) → nat_le n most ≡ nat_lt n (most + 1)
to_most n most = by_test (nat_le n most) refl where
  by_test : (b : Bool) → nat_le n most ≡ b → b ≡ nat_lt n (most + 1)
  by_test true is = sym (lt-ltb n (most + 1) (omega (arith, leb-true n most is)))
  by_test false is = sym (le-ltb n (most + 1) (omega (arith, leb-false n most is)))

few_same : (n : ℕ) → is_between 0 4096 n ≡ nat_lt n 4097
few_same n = rw (le-leb 0 n (omega arith)) (to_most n 4096)

updates_row : (found : Option Data) → is_some (there_or (Some []) (sized_of update_text_of (is_between 0 4096)) found)
    ≡ is_some (there_or (Some []) (list_each update_text_of) found >>= as_many (is_between 0 4096))
updates_row None = refl
updates_row (Some d) = refl

-- ---- the request

module _ (ms : Members) where
  abbrev state_holds : Bool
  state_holds = holds ms (optional_row (codes "state") text_table)

  abbrev origins_hold : Bool
  origins_hold = holds ms (optional_row (codes "origins") (elements origin_table))

  abbrev updates_hold : Bool
  updates_hold = holds ms (optional_row (codes "updates") updates_table)

  -- the rows before that of `accepted`
  abbrev witness_before : List Bool
  witness_before = state_holds ∷ origins_hold ∷ updates_hold ∷ []

  updates_read : updates_hold
      ≡ is_some (optional_list update_text_of (codes "updates") (object ms) >>= as_many (is_between 0 4096))
  unfolding optional_or member_of
  updates_read =
      optional_or_holds [] (sized_of update_text_of (is_between 0 4096)) updates_table few_are (codes "updates") ms
      ∙ updates_row (member_in (codes "updates") (object ms))

  module _ (rows : List AcceptedRow) where
    abbrev made : List ℕ → List OriginKey → List UpdateText → WitnessRequest
    made state origins updates = record { state = state; origins = origins; updates = updates; accepted = rows }

    by_updates : (state : List ℕ) (origins : List OriginKey) (found : Option (List UpdateText))
        → (is_some (found >>= as_many (is_between 0 4096)) && true)
        ≡ is_some (found >>= λ updates. few_updates (made state origins updates))
    by_updates state origins None = refl
    by_updates state origins (Some updates) =
        and_true _
        ∙ if_some (is_between 0 4096 (length updates)) updates
        ∙ few_same (length updates)
        ∙ sym (if_some (nat_lt (length updates) 4097) (made state origins updates))

    updates_last : (state : List ℕ) (origins : List OriginKey) → (updates_hold && true)
        ≡ is_some (optional_list update_text_of (codes "updates") (object ms)
        >>= λ updates. few_updates (made state origins updates))
    updates_last state origins =
        ap (λ b. b && true) updates_read
        ∙ by_updates state origins (optional_list update_text_of (codes "updates") (object ms))

    witness_rest : all_then witness_before true ≡ is_some (witness_members rows (object ms))
    unfolding witness_members
    witness_rest =
        step _ _ _ _ (optional_or_holds [] text_of text_table text_is (codes "state") ms)
        (λ state _. step _ _ _ _
        (optional_or_holds [] (list_each origin_key_of) (elements origin_table)
        (elements_table origin_key_of origin_table origin_is) (codes "origins") ms)
        (λ origins _. updates_last state origins))

pub witness_is : IsTableOf witness_request witness_table
unfolding witness_table
witness_is =
    record_is witness_request witness_table
    (λ ms. rows_first ms witness_members (witness_before ms) true (witness_rest ms))
    (rows_unread witness_members) (λ d none. rw none refl)
