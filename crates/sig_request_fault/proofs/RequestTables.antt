-- The tables of the requests of `log`, `consistency` and `verify` are those of the requests.
use Rattle.std.proofs.Common.{◌≡◌, List, [], ◌∷◌, codes, Bool, true, false, ◌&&◌, Option, None, is_some, refl}
use Rattle.std.proofs.Common.{ap, ◌∙◌}
use Rattle.std.proofs.Math.Bool.{and_assoc}
use Rattle.sig_base.specs.OptionSteps.{◌>>=◌}
use Rattle.sig_base.specs.declared.checker.AcceptedRow.{AcceptedRow}
use Rattle.sig_json.specs.Data.{Data, Members, object}
use Rattle.sig_json.specs.Find.{as_object}
use Rattle.sig_json.specs.Kinds.{bytes_of, hash_of, i64_of, text_of, u64_of}
use Rattle.sig_json.specs.Member.{list_each, optional, optional_list}
use Rattle.sig_request.specs.Accepted.{with_rows}
use Rattle.sig_request.specs.ConsistencyRequest.{consistency_members, consistency_request}
use Rattle.sig_request.specs.DigestText.{digest_kind}
use Rattle.sig_request.specs.HeadMembers.{head_of}
use Rattle.sig_request.specs.Policy.{request_policy_of}
use Rattle.sig_request.specs.Request.{log_members, log_request}
use Rattle.sig_request.specs.Row.{entries_of, row_of, scheme_kind}
use Rattle.sig_request.specs.VerifyRequest.{verify_members, verify_request}
use Rattle.sig_request.specs.declared.head_members.ClaimedHead.{ClaimedHead}
use Rattle.sig_request_fault.proofs.PolicyTables.{policy_is}
use Rattle.sig_request_fault.proofs.RowTables.{accepted_is, bytes_is, entries_is, hash_is, i64_is, scheme_is, text_is, u64_is}
use Rattle.sig_request_fault.specs.PolicyTable.{policy_table}
use Rattle.sig_request_fault.specs.RequestTable.{consistency_table, digest_table, log_table, verify_table}
use Rattle.sig_request_fault.specs.RowTable.{accepted_table, entries_table, row_table, scheme_table}
use Rattle.sig_table.proofs.RecordTables.{elements_table, not_optional, optional_holds, optional_or_holds, other_kind_table}
use Rattle.sig_table.proofs.RecordTables.{record_is, required_holds, step}
use Rattle.sig_table.specs.Kinds.{bytes_table, hash_table, i64_table, text_table, u64_table}
use Rattle.sig_table.specs.Table.{Row, elements, optional_row, required_row, row_holds}
use Rattle.sig_table.specs.TableOf.{IsTableOf}

-- ---- `accepted` is read before the other members, and its row is after most of them

-- all of these and then another
abbrev pub all_then : List Bool → Bool → Bool
all_then [] last = last
all_then (b ∷ bs) last = b && all_then bs last

past : (b a x : Bool) → (b && (a && x)) ≡ (a && (b && x))
past true a x = refl
past false true x = refl
past false false x = refl

pub past_all : (bs : List Bool) (a x : Bool) → all_then bs (a && x) ≡ (a && all_then bs x)
past_all [] a x = refl
past_all (b ∷ bs) a x = ap (λ y. b && y) (past_all bs a x) ∙ past b a (all_then bs x)

module _ (ms : Members) where
  abbrev pub holds : Row → Bool
  holds r = row_holds r (object ms)

  abbrev pub accepted_holds : Bool
  accepted_holds = holds (optional_row (codes "accepted") accepted_table)

  abbrev pub entries_hold : Bool
  entries_hold = holds (optional_row (codes "entries") entries_table)

  pub entries_read : entries_hold ≡ is_some (optional entries_of (codes "entries") (object ms))
  entries_read = optional_holds entries_of entries_table entries_is (codes "entries") ms

  hashes_read : holds (optional_row (codes "hashes") (elements hash_table))
      ≡ is_some (optional_list hash_of (codes "hashes") (object ms))
  hashes_read =
      optional_or_holds [] (list_each hash_of) (elements hash_table) (elements_table hash_of hash_table hash_is)
      (codes "hashes") ms

  -- the rows before `accepted`, it, and those after it
  pub rows_first : {R : Type 0} → (members : List AcceptedRow → Data → Option R) (before : List Bool) (after : Bool)
      → ((rows : List AcceptedRow) → all_then before after ≡ is_some (members rows (object ms)))
      → all_then before (accepted_holds && after) ≡ is_some (with_rows members (object ms))
  unfolding with_rows accepted_table
  rows_first members before after others =
      past_all before accepted_holds after
      ∙ step _ _ _ _ (optional_or_holds [] (list_each row_of) (elements row_table) accepted_is (codes "accepted") ms)
      (λ rows _. others rows)

  -- the three members of a head
  head_first : {R : Type 0} → (rows : List AcceptedRow) (next : ClaimedHead → Option R) (after : Bool)
      → ((head : ClaimedHead) → after ≡ is_some (next head))
      → (holds (required_row (codes "checkpoint") text_table) && (holds (required_row (codes "scheme") scheme_table)
      && (holds (required_row (codes "key") bytes_table) && after))) ≡ is_some (head_of rows (object ms) >>= next)
  unfolding head_of
  head_first rows next after others =
      regrouped (holds (required_row (codes "checkpoint") text_table)) (holds (required_row (codes "scheme") scheme_table))
      (holds (required_row (codes "key") bytes_table)) after
      ∙ step _ _ _ _ head_read (λ head _. others head)
    where
      regrouped : (c s k x : Bool) → (c && (s && (k && x))) ≡ ((c && (s && (k && true))) && x)
      regrouped c s k x = simp and_assoc

      head_read : (holds (required_row (codes "checkpoint") text_table) && (holds (required_row (codes "scheme") scheme_table)
          && (holds (required_row (codes "key") bytes_table) && true))) ≡ is_some (head_of rows (object ms))
      head_read =
          step _ _ _ _ (required_holds text_of text_table text_is (codes "checkpoint") ms)
          (λ _ _. step _ _ _ _ (required_holds scheme_kind scheme_table scheme_is (codes "scheme") ms)
          (λ _ _. step _ _ _ _ (required_holds bytes_of bytes_table bytes_is (codes "key") ms)
          (λ _ _. refl)))

-- what is not an object has no member `accepted` that is read
pub rows_unread : {R : Type 0} → (members : List AcceptedRow → Data → Option R) (d : Data) → as_object d ≡ None
    → with_rows members d ≡ None
unfolding with_rows
rows_unread members d none = rw (not_optional [] (list_each row_of) (codes "accepted") d none) refl

-- ---- the requests

-- the rows before that of `accepted`
abbrev log_before : Members → List Bool
log_before ms =
    holds ms (required_row (codes "entry") bytes_table)
    ∷ holds ms (required_row (codes "logIndex") i64_table)
    ∷ holds ms (required_row (codes "treeSize") u64_table)
    ∷ holds ms (required_row (codes "rootHash") hash_table)
    ∷ holds ms (optional_row (codes "hashes") (elements hash_table))
    ∷ holds ms (required_row (codes "checkpoint") text_table)
    ∷ holds ms (required_row (codes "scheme") scheme_table)
    ∷ holds ms (required_row (codes "key") bytes_table)
    ∷ []

log_rest : (ms : Members) (rows : List AcceptedRow)
    → all_then (log_before ms) (entries_hold ms && true) ≡ is_some (log_members rows (object ms))
unfolding log_members
log_rest ms rows =
    step _ _ _ _ (required_holds bytes_of bytes_table bytes_is (codes "entry") ms)
    (λ _ _. step _ _ _ _ (required_holds i64_of i64_table i64_is (codes "logIndex") ms)
    (λ _ _. step _ _ _ _ (required_holds u64_of u64_table u64_is (codes "treeSize") ms)
    (λ _ _. step _ _ _ _ (required_holds hash_of hash_table hash_is (codes "rootHash") ms)
    (λ _ _. step _ _ _ _ (hashes_read ms)
    (λ _ _. head_first ms rows _ _
    (λ _. step _ _ _ _ (entries_read ms)
    (λ _ _. refl)))))))

pub log_is : IsTableOf log_request log_table
unfolding log_table
log_is =
    record_is log_request log_table
    (λ ms. rows_first ms log_members (log_before ms) (entries_hold ms && true) (log_rest ms))
    (rows_unread log_members) (λ d none. rw none refl)

-- the rows before that of `accepted`
abbrev consistency_before : Members → List Bool
consistency_before ms =
    holds ms (required_row (codes "oldSize") u64_table)
    ∷ holds ms (required_row (codes "oldRoot") hash_table)
    ∷ holds ms (required_row (codes "treeSize") u64_table)
    ∷ holds ms (required_row (codes "rootHash") hash_table)
    ∷ holds ms (optional_row (codes "hashes") (elements hash_table))
    ∷ holds ms (required_row (codes "checkpoint") text_table)
    ∷ holds ms (required_row (codes "scheme") scheme_table)
    ∷ holds ms (required_row (codes "key") bytes_table)
    ∷ []

consistency_rest : (ms : Members) (rows : List AcceptedRow)
    → all_then (consistency_before ms) (entries_hold ms && true) ≡ is_some (consistency_members rows (object ms))
unfolding consistency_members
consistency_rest ms rows =
    step _ _ _ _ (required_holds u64_of u64_table u64_is (codes "oldSize") ms)
    (λ _ _. step _ _ _ _ (required_holds hash_of hash_table hash_is (codes "oldRoot") ms)
    (λ _ _. step _ _ _ _ (required_holds u64_of u64_table u64_is (codes "treeSize") ms)
    (λ _ _. step _ _ _ _ (required_holds hash_of hash_table hash_is (codes "rootHash") ms)
    (λ _ _. step _ _ _ _ (hashes_read ms)
    (λ _ _. head_first ms rows _ _
    (λ _. step _ _ _ _ (entries_read ms)
    (λ _ _. refl)))))))

pub consistency_is : IsTableOf consistency_request consistency_table
unfolding consistency_table
consistency_is =
    record_is consistency_request consistency_table
    (λ ms. rows_first ms consistency_members (consistency_before ms) (entries_hold ms && true) (consistency_rest ms))
    (rows_unread consistency_members) (λ d none. rw none refl)

digest_is : IsTableOf digest_kind digest_table
unfolding digest_table
digest_is = other_kind_table digest_kind

-- the rows before that of `accepted`
abbrev verify_before : Members → List Bool
verify_before ms =
    holds ms (required_row (codes "trustedRoot") text_table)
    ∷ holds ms (required_row (codes "bundle") text_table)
    ∷ holds ms (required_row (codes "now") i64_table)
    ∷ holds ms (required_row (codes "digest") digest_table)
    ∷ holds ms (required_row (codes "policy") policy_table)
    ∷ []

verify_rest : (ms : Members) (rows : List AcceptedRow)
    → all_then (verify_before ms) (entries_hold ms && true) ≡ is_some (verify_members rows (object ms))
unfolding verify_members
verify_rest ms rows =
    step _ _ _ _ (required_holds text_of text_table text_is (codes "trustedRoot") ms)
    (λ _ _. step _ _ _ _ (required_holds text_of text_table text_is (codes "bundle") ms)
    (λ _ _. step _ _ _ _ (required_holds i64_of i64_table i64_is (codes "now") ms)
    (λ _ _. step _ _ _ _ (required_holds digest_kind digest_table digest_is (codes "digest") ms)
    (λ _ _. step _ _ _ _ (required_holds request_policy_of policy_table policy_is (codes "policy") ms)
    (λ _ _. step _ _ _ _ (entries_read ms)
    (λ _ _. refl))))))

pub verify_is : IsTableOf verify_request verify_table
unfolding verify_table
verify_is =
    record_is verify_request verify_table
    (λ ms. rows_first ms verify_members (verify_before ms) (entries_hold ms && true) (verify_rest ms))
    (rows_unread verify_members) (λ d none. rw none refl)
