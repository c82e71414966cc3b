-- The table of requests of `audit` is that of the requests.
use Rattle.std.proofs.Common.{◌≡◌, ◌+◌, ℕ, List, [], ◌∷◌, length, codes, Bool, true, false, ◌&&◌, nat_le, nat_lt}
use Rattle.std.proofs.Common.{if◌then◌else◌, Option, Some, None, is_some, refl, sym, ap, ◌∙◌, arith, le-leb, le-ltb, leb-false}
use Rattle.std.proofs.Common.{leb-true, lt-ltb}
use Rattle.std.proofs.Math.Bool.{and_assoc}
use Rattle.sig_audit.specs.declared.heads.Watch.{Watch}
use Rattle.sig_base.specs.OptionSteps.{◌>>=◌}
use Rattle.sig_base.specs.declared.checker.AcceptedRow.{AcceptedRow}
use Rattle.sig_json.specs.Data.{Data, Members, object}
use Rattle.sig_json.specs.Find.{as_object}
use Rattle.sig_json.specs.Kinds.{bytes_of, hash_of, text_of, u64_of}
use Rattle.sig_json.specs.List.{list_of}
use Rattle.sig_json.specs.Member.{each, list_each, member_of, optional, optional_list, optional_or, required, required_list}
use Rattle.sig_json.specs.Member.{there_or}
use Rattle.sig_request.specs.AuditRequest.{are_under, audit_members, audit_request, head_text_of, is_within, kept_within}
use Rattle.sig_request.specs.AuditRequest.{watch_of}
use Rattle.sig_request.specs.Row.{entries_of, scheme_kind}
use Rattle.sig_request.specs.declared.audit_request.AuditRequest.{AuditRequest}
use Rattle.sig_request.specs.declared.audit_request.HeadText.{HeadText}
use Rattle.sig_request_fault.proofs.RequestTables.{all_then, entries_hold, entries_read, holds, past_all, rows_first}
use Rattle.sig_request_fault.proofs.RequestTables.{rows_unread}
use Rattle.sig_request_fault.proofs.RowTables.{and_false, bytes_is, hash_is, scheme_is, text_is, u64_is}
use Rattle.sig_request_fault.specs.AuditTable.{audit_table, head_count, head_table, heads_table, list_count, watch_table}
use Rattle.sig_request_fault.specs.AuditTable.{watched_table}
use Rattle.sig_request_fault.specs.RowTable.{scheme_table}
use Rattle.sig_table.proofs.SizedLists.{as_many, each_length, sized_of, sized_table}
use Rattle.sig_table.proofs.RecordTables.{beyond_range_table, elements_table, not_required, optional_or_holds, record_is}
use Rattle.sig_table.proofs.RecordTables.{required_holds, step}
use Rattle.sig_table.specs.Chosen.{is_between}
use Rattle.sig_table.specs.Kinds.{below, below_table, bytes_table, hash_table, text_table, u64_table}
use Rattle.sig_table.specs.Table.{elements, fits, member_in, optional_row, required_row, row_holds}
use Rattle.sig_table.specs.TableOf.{IsTableOf}

-- ---- a head, and a list of them

hashes_are : (ms : Members) → row_holds (optional_row (codes "hashes") (elements hash_table)) (object ms)
    ≡ is_some (optional_list hash_of (codes "hashes") (object ms))
hashes_are =
    optional_or_holds [] (list_each hash_of) (elements hash_table) (elements_table hash_of hash_table hash_is)
    (codes "hashes")

head_is : IsTableOf head_text_of head_table
unfolding head_table head_text_of
head_is =
    record_is head_text_of head_table
    (λ ms. step _ _ _ _ (required_holds text_of text_table text_is (codes "checkpoint") ms)
    (λ _ _. step _ _ _ _ (hashes_are ms) (λ _ _. refl)))
    (λ d none. rw (not_required text_of (codes "checkpoint") d none) refl)
    (λ d none. rw none refl)

abbrev heads_of : Data → Option (List HeadText)
heads_of = sized_of head_text_of (is_between 1 256)

heads_are : IsTableOf heads_of heads_table
unfolding heads_table
heads_are = sized_table (is_between 1 256) head_text_of head_table head_is

-- ---- a watched entry under one of so many heads, and a list of them

abbrev kept_under : ℕ → Watch → Option Watch
kept_under count watch = if nat_lt watch.head count then Some watch else None

abbrev watch_under : ℕ → Data → Option Watch
watch_under count d = watch_of d >>= kept_under count

-- the index of a head is tested when it is read
abbrev index_under : ℕ → ℕ → Option ℕ
index_under count n = if nat_lt n count then Some n else None

-- what comes after the index
abbrev watch_after : Data → ℕ → Option Watch
watch_after d head = do
  index ← required u64_of (codes "index") d
  hashes ← optional_list hash_of (codes "hashes") d
  entry ← required bytes_of (codes "entry") d
  Some (record { head = head; index = index; hashes = hashes; entry = entry })

if_some : {A : Type 0} → (b : Bool) (x : A) → is_some (if b then Some x else None) ≡ b
if_some true x = refl
if_some false x = refl

kept_some : {A : Type 0} → (b : Bool) (x : A) → (b && true) ≡ is_some (if b then Some x else None)
kept_some true x = refl
kept_some false x = refl

-- a required member that is read in two steps
required_then : {A B : Type 0} → (kind : Data → Option A) (more : A → Option B) (name : List ℕ) (ms : Members)
    → required (λ d. kind d >>= more) name (object ms) ≡ (required kind name (object ms) >>= more)
unfolding required member_of
required_then kind more name ms = by_member (member_in name (object ms)) where
  by_member : (found : Option Data)
      → there_or None (λ d. kind d >>= more) found ≡ (there_or None kind found >>= more)
  by_member None = refl
  by_member (Some d) = refl

-- a step inside of what is read in two steps
step_in : {A B C : Type 0} → (found : Option A) (next : A → Option B) (more : B → Option C) (row rest : Bool)
    → row ≡ is_some found → ((x : A) → rest ≡ is_some (next x >>= more))
    → (row && rest) ≡ is_some ((found >>= next) >>= more)
step_in None next more row rest is goes_on = rw is refl
step_in (Some x) next more row rest is goes_on = rw is (goes_on x)

module _ (ms : Members) where
  abbrev index_holds : Bool
  index_holds = row_holds (required_row (codes "index") u64_table) (object ms)

  abbrev hashes_hold : Bool
  hashes_hold = row_holds (optional_row (codes "hashes") (elements hash_table)) (object ms)

  abbrev entry_holds : Bool
  entry_holds = row_holds (required_row (codes "entry") bytes_table) (object ms)

  by_head : (count : ℕ) (found : Option ℕ)
      → (is_some (found >>= index_under count) && (index_holds && (hashes_hold && (entry_holds && true))))
      ≡ is_some ((found >>= watch_after (object ms)) >>= kept_under count)
  by_head count None = refl
  by_head count (Some head) =
      ap (λ b. b && (index_holds && (hashes_hold && (entry_holds && true)))) (if_some (nat_lt head count) head)
      ∙ sym (past_all (index_holds ∷ hashes_hold ∷ entry_holds ∷ []) (nat_lt head count) true)
      ∙ step_in _ _ _ _ _ (required_holds u64_of u64_table u64_is (codes "index") ms)
      (λ _. step_in _ _ _ _ _ (hashes_are ms)
      (λ _. step_in _ _ _ _ _ (required_holds bytes_of bytes_table bytes_is (codes "entry") ms)
      (λ _. kept_some (nat_lt head count) _)))

  watch_object : (count : ℕ) → fits (watch_table count) (object ms) ≡ is_some (watch_under count (object ms))
  unfolding watch_table watch_of
  watch_object count =
      ap (λ b. b && (index_holds && (hashes_hold && (entry_holds && true))))
      (required_holds (below count) (below_table count) (beyond_range_table (below count)) (codes "head") ms
      ∙ ap is_some (required_then u64_of (index_under count) (codes "head") ms))
      ∙ by_head count (required u64_of (codes "head") (object ms))

watch_unread : (count : ℕ) (d : Data) → as_object d ≡ None → watch_under count d ≡ None
unfolding watch_of
watch_unread count d none = rw (not_required u64_of (codes "head") d none) refl

watch_unfit : (count : ℕ) (d : Data) → as_object d ≡ None → fits (watch_table count) d ≡ false
unfolding watch_table
watch_unfit count d none = rw none refl

watch_is : (count : ℕ) → IsTableOf (watch_under count) (watch_table count)
watch_is count =
    record_is (watch_under count) (watch_table count) (λ ms. watch_object ms count) (watch_unread count) (watch_unfit count)

-- the watched entries, if each of them is under one of so many heads
abbrev all_under : ℕ → List Watch → Option (List Watch)
all_under count watched = if are_under count watched then Some watched else None

one_under : (count : ℕ) (watch : Watch) (others : Option (List Watch)) (b : Bool) → nat_lt watch.head count ≡ b
    → ((if b then Some watch else None) >>= λ x. (others >>= all_under count) >>= λ xs. Some (x ∷ xs))
    ≡ ((others >>= λ xs. Some (watch ∷ xs)) >>= all_under count)
one_under count watch None true is = refl
one_under count watch None false is = refl
one_under count watch (Some others) false is = rw is refl
one_under count watch (Some others) true is = rw is (by_others (are_under count others)) where
  by_others : (b : Bool) → ((if b then Some others else None) >>= λ xs. Some (watch ∷ xs))
      ≡ (if true && b then Some (watch ∷ others) else None)
  by_others true = refl
  by_others false = refl

each_under : (count : ℕ) (ds : List Data) → each (watch_under count) ds ≡ (each watch_of ds >>= all_under count)
each_under count [] = refl
each_under count (d ∷ ds) = rw (each_under count ds) (by_watch (watch_of d)) where
  by_watch : (found : Option Watch)
      → ((found >>= kept_under count) >>= λ x. (each watch_of ds >>= all_under count) >>= λ xs. Some (x ∷ xs))
      ≡ ((found >>= λ x. each watch_of ds >>= λ xs. Some (x ∷ xs)) >>= all_under count)
  by_watch None = refl
  by_watch (Some watch) = one_under count watch (each watch_of ds) (nat_lt watch.head count) refl

abbrev watched_of : ℕ → Data → Option (List Watch)
watched_of count = sized_of (watch_under count) (is_between 0 4096)

watched_are : (count : ℕ) → IsTableOf (watched_of count) (watched_table count)
unfolding watched_table
watched_are count = sized_table (is_between 0 4096) (watch_under count) (watch_table count) (watch_is count)

-- the same of a list of watched entries that are read already
abbrev few_under : ℕ → List Watch → Option (List Watch)
few_under count watched = all_under count watched >>= as_many (is_between 0 4096)

watched_then : (count : ℕ) (d : Data) → watched_of count d ≡ (list_each watch_of d >>= few_under count)
unfolding list_each
watched_then count d = by_list (list_of d) where
  by_found : (found : Option (List Watch)) → ((found >>= all_under count) >>= as_many (is_between 0 4096))
      ≡ (found >>= few_under count)
  by_found None = refl
  by_found (Some watched) = refl

  by_list : (found : Option (List Data)) → ((found >>= each (watch_under count)) >>= as_many (is_between 0 4096))
      ≡ ((found >>= each watch_of) >>= few_under count)
  by_list None = refl
  by_list (Some ds) = rw (each_under count ds) (by_found (each watch_of ds))

watched_row : (count : ℕ) (found : Option Data) → is_some (there_or (Some []) (watched_of count) found)
    ≡ is_some (there_or (Some []) (list_each watch_of) found >>= few_under count)
watched_row count None = refl
watched_row count (Some d) = ap is_some (watched_then count d)

-- ---- how many there are

from_one : (n : ℕ) → nat_le 1 n ≡ nat_lt 0 n
from_one n = by_test (nat_le 1 n) refl where
  by_test : (b : Bool) → nat_le 1 n ≡ b → b ≡ nat_lt 0 n
  by_test true is = sym (lt-ltb 0 n (omega (arith, leb-true 1 n is)))
  by_test false is = sym (le-ltb 0 n (omega (arith, leb-false 1 n is)))

to_most : (n most : ℕ) → nat_le n most ≡ nat_lt n (most + 1)
to_most n most = by_test (nat_le n most) refl where
  by_test : (b : Bool) → nat_le n most ≡ b → b ≡ nat_lt n (most + 1)
  by_test true is = sym (lt-ltb n (most + 1) (omega (arith, leb-true n most is)))
  by_test false is = sym (le-ltb n (most + 1) (omega (arith, leb-false n most is)))

within_same : (heads watched : ℕ) (under : Bool)
    → (is_between 1 256 heads && (under && is_between 0 4096 watched))
    ≡ (nat_lt 0 heads && (nat_lt heads 257 && (nat_lt watched 4097 && under)))
within_same heads watched under =
    rw (from_one heads, to_most heads 256, to_most watched 4096, le-leb 0 watched (omega arith))
    (moved (nat_lt 0 heads) (nat_lt heads 257) under (nat_lt watched 4097))
  where
    moved : (a b u w : Bool) → ((a && b) && (u && (true && w))) ≡ (a && (b && (w && u)))
    moved true true true true = refl
    moved true true true false = refl
    moved true true false true = refl
    moved true true false false = refl
    moved true false u w = refl
    moved false b u w = refl

few_some : (count : ℕ) (watched : List Watch)
    → is_some (few_under count watched) ≡ (are_under count watched && is_between 0 4096 (length watched))
few_some count watched = by_test (are_under count watched) where
  by_test : (b : Bool) → is_some ((if b then Some watched else None) >>= as_many (is_between 0 4096))
      ≡ (b && is_between 0 4096 (length watched))
  by_test true = if_some (is_between 0 4096 (length watched)) watched
  by_test false = refl

count_is : (found : Option Data) (heads : List HeadText) → there_or None (list_each head_text_of) found ≡ Some heads
    → list_count (found >>= list_of) ≡ length heads
unfolding list_each
count_is None heads e = absurd cc
count_is (Some d) heads e = by_list (list_of d) e where
  by_list : (found : Option (List Data)) → (found >>= each head_text_of) ≡ Some heads → list_count found ≡ length heads
  by_list None e = absurd cc
  by_list (Some ds) e = each_length head_text_of ds heads e

heads_counted : (ms : Members) (heads : List HeadText)
    → required_list head_text_of (codes "heads") (object ms) ≡ Some heads → head_count (object ms) ≡ length heads
unfolding required member_of
heads_counted ms heads e = count_is (member_in (codes "heads") (object ms)) heads e

-- ---- the request

module _ (ms : Members) where
  abbrev scheme_holds : Bool
  scheme_holds = holds ms (required_row (codes "scheme") scheme_table)

  abbrev key_holds : Bool
  key_holds = holds ms (required_row (codes "key") bytes_table)

  abbrev last_hold : Bool
  last_hold = scheme_holds && (key_holds && (entries_hold ms && true))

  abbrev watched_holds : ℕ → Bool
  watched_holds count = holds ms (optional_row (codes "watched") (watched_table count))

  -- the rows before that of `accepted`
  abbrev audit_before : List Bool
  audit_before =
      holds ms (required_row (codes "heads") heads_table)
      ∷ watched_holds (head_count (object ms))
      ∷ scheme_holds
      ∷ key_holds
      ∷ []

  module _ (rows : List AcceptedRow) where
    abbrev after_watched : List HeadText → List Watch → Option AuditRequest
    after_watched heads watched = do
      scheme ← required scheme_kind (codes "scheme") (object ms)
      key ← required bytes_of (codes "key") (object ms)
      entries ← optional entries_of (codes "entries") (object ms)
      kept_within (record {
        heads = heads;
        watched = watched;
        scheme = scheme;
        key = key;
        accepted = rows;
        entries = entries;
      })

    abbrev after_heads : List HeadText → Option AuditRequest
    after_heads heads = optional_list watch_of (codes "watched") (object ms) >>= after_watched heads

    kept_last : (heads : List HeadText) (watched : List Watch)
        → (scheme_holds && (key_holds && (entries_hold ms && is_within heads watched)))
        ≡ is_some (after_watched heads watched)
    kept_last heads watched =
        step _ _ _ _ (required_holds scheme_kind scheme_table scheme_is (codes "scheme") ms)
        (λ _ _. step _ _ _ _ (required_holds bytes_of bytes_table bytes_is (codes "key") ms)
        (λ _ _. step _ _ _ _ (entries_read ms)
        (λ _ _. sym (if_some (is_within heads watched) _))))

    by_watched : (heads : List HeadText) (found : Option (List Watch))
        → (is_some (as_many (is_between 1 256) heads) && (is_some (found >>= few_under (length heads)) && last_hold))
        ≡ is_some (found >>= after_watched heads)
    by_watched heads None = and_false (is_some (as_many (is_between 1 256) heads))
    by_watched heads (Some watched) =
        grouped (is_some (as_many (is_between 1 256) heads)) (is_some (few_under (length heads) watched)) last_hold
        ∙ sym (past_all (scheme_holds ∷ key_holds ∷ entries_hold ms ∷ [])
        (is_some (as_many (is_between 1 256) heads) && is_some (few_under (length heads) watched)) true)
        ∙ ap (λ b. scheme_holds && (key_holds && (entries_hold ms && b))) (within heads watched)
        ∙ kept_last heads watched
      where
        grouped : (a b x : Bool) → (a && (b && x)) ≡ ((a && b) && x)
        grouped a b x = simp and_assoc

        and_true : (a : Bool) → (a && true) ≡ a
        and_true true = refl
        and_true false = refl

        within : (heads : List HeadText) (watched : List Watch)
            → ((is_some (as_many (is_between 1 256) heads) && is_some (few_under (length heads) watched)) && true)
            ≡ is_within heads watched
        within heads watched =
            and_true _
            ∙ rw (if_some (is_between 1 256 (length heads)) heads, few_some (length heads) watched)
            (within_same (length heads) (length watched) (are_under (length heads) watched))

    watched_read : (count : ℕ) → watched_holds count
        ≡ is_some (optional_list watch_of (codes "watched") (object ms) >>= few_under count)
    unfolding optional_or member_of
    watched_read count =
        optional_or_holds [] (watched_of count) (watched_table count) (watched_are count) (codes "watched") ms
        ∙ watched_row count (member_in (codes "watched") (object ms))

    by_heads : (found : Option (List HeadText)) → required_list head_text_of (codes "heads") (object ms) ≡ found
        → (is_some (found >>= as_many (is_between 1 256)) && (watched_holds (head_count (object ms)) && last_hold))
        ≡ is_some (found >>= after_heads)
    by_heads None is = refl
    by_heads (Some heads) is =
        ap (λ count. is_some (as_many (is_between 1 256) heads) && (watched_holds count && last_hold))
        (heads_counted ms heads is)
        ∙ ap (λ b. is_some (as_many (is_between 1 256) heads) && (b && last_hold)) (watched_read (length heads))
        ∙ by_watched heads (optional_list watch_of (codes "watched") (object ms))

    audit_rest : all_then audit_before (entries_hold ms && true) ≡ is_some (audit_members rows (object ms))
    unfolding audit_members
    audit_rest =
        ap (λ b. b && (watched_holds (head_count (object ms)) && last_hold))
        (required_holds heads_of heads_table heads_are (codes "heads") ms
        ∙ ap is_some (required_then (list_each head_text_of) (as_many (is_between 1 256)) (codes "heads") ms))
        ∙ by_heads (required_list head_text_of (codes "heads") (object ms)) refl

audit_object : (ms : Members) → fits audit_table (object ms) ≡ is_some (audit_request (object ms))
unfolding audit_table
audit_object ms =
    rows_first ms audit_members (audit_before ms) (entries_hold ms && true) (audit_rest ms)

pub audit_is : IsTableOf audit_request audit_table
unfolding audit_table
audit_is = record_is audit_request audit_table audit_object (rows_unread audit_members) (λ d none. rw none refl)
