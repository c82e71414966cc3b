-- The tables of a trusted root are those of its records.
use Rattle.std.proofs.Common.{◌≡◌, ℕ, List, [], Option, Some, None, option_map, codes, refl}
use Rattle.sig_json.specs.Data.{Data}
use Rattle.sig_json.specs.Find.{as_object}
use Rattle.sig_json.specs.Kinds.{bytes_of}
use Rattle.sig_json.specs.Member.{list_each, optional}
use Rattle.sig_json.specs.CommonRecord.{chain_of, log_id_of}
use Rattle.sig_document_fault.proofs.CommonTables.{bytes_is, chain_is, log_id_is}
use Rattle.sig_document_fault.specs.CommonTable.{chain_table, log_id_table}
use Rattle.sig_document_fault.specs.RootTable.{authority_table, instance_table, public_key_table, range_table}
use Rattle.sig_document_fault.specs.RootTable.{root_table, time_table}
use Rattle.sig_root.specs.RootRecord.{authority_of, instance_of, public_key_of, range_of, time_of, trusted_root_of}
use Rattle.sig_table.proofs.RecordTables.{elements_table, not_optional, optional_holds, optional_or_holds}
use Rattle.sig_table.proofs.RecordTables.{other_kind_table, record_is, step}
use Rattle.sig_table.specs.Kinds.{bytes_table}
use Rattle.sig_table.specs.Table.{elements}
use Rattle.sig_table.specs.TableOf.{IsTableOf}

-- a record whose first member is optional is an object
no_optional : {A : Type 0} → (kind : Data → Option A) (name : List ℕ) (d : Data) → as_object d ≡ None
    → optional kind name d ≡ None
no_optional kind = not_optional None (λ d. option_map Some (kind d))

time_is : IsTableOf time_of time_table
unfolding time_table
time_is = other_kind_table time_of

range_is : IsTableOf range_of range_table
unfolding range_table range_of
range_is =
    record_is range_of range_table
    (λ ms. step _ _ _ _ (optional_holds time_of time_table time_is (codes "start") ms)
    (λ _ _. step _ _ _ _ (optional_holds time_of time_table time_is (codes "end") ms) (λ _ _. refl)))
    (λ d none. rw (no_optional time_of (codes "start") d none) refl)
    (λ d none. rw none refl)

authority_is : IsTableOf authority_of authority_table
unfolding authority_table authority_of
authority_is =
    record_is authority_of authority_table
    (λ ms. step _ _ _ _ (optional_holds chain_of chain_table chain_is (codes "certChain") ms)
    (λ _ _. step _ _ _ _ (optional_holds range_of range_table range_is (codes "validFor") ms) (λ _ _. refl)))
    (λ d none. rw (no_optional chain_of (codes "certChain") d none) refl)
    (λ d none. rw none refl)

public_key_is : IsTableOf public_key_of public_key_table
unfolding public_key_table public_key_of
public_key_is =
    record_is public_key_of public_key_table
    (λ ms. step _ _ _ _ (optional_holds bytes_of bytes_table bytes_is (codes "rawBytes") ms)
    (λ _ _. step _ _ _ _ (optional_holds range_of range_table range_is (codes "validFor") ms) (λ _ _. refl)))
    (λ d none. rw (no_optional bytes_of (codes "rawBytes") d none) refl)
    (λ d none. rw none refl)

instance_is : IsTableOf instance_of instance_table
unfolding instance_table instance_of
instance_is =
    record_is instance_of instance_table
    (λ ms. step _ _ _ _ (optional_holds public_key_of public_key_table public_key_is (codes "publicKey") ms)
    (λ _ _. step _ _ _ _ (optional_holds log_id_of log_id_table log_id_is (codes "logId") ms) (λ _ _. refl)))
    (λ d none. rw (no_optional public_key_of (codes "publicKey") d none) refl)
    (λ d none. rw none refl)

instances_are : IsTableOf (list_each instance_of) (elements instance_table)
instances_are = elements_table instance_of instance_table instance_is

pub root_is : IsTableOf trusted_root_of root_table
unfolding root_table trusted_root_of
root_is =
    record_is trusted_root_of root_table
    (λ ms. step _ _ _ _ (optional_or_holds [] (list_each authority_of) (elements authority_table)
    (elements_table authority_of authority_table authority_is) (codes "certificateAuthorities") ms)
    (λ _ _. step _ _ _ _ (optional_or_holds [] (list_each instance_of) (elements instance_table) instances_are
    (codes "tlogs") ms)
    (λ _ _. step _ _ _ _ (optional_or_holds [] (list_each instance_of) (elements instance_table) instances_are
    (codes "ctlogs") ms)
    (λ _ _. refl))))
    (λ d none. rw (not_optional [] (list_each authority_of) (codes "certificateAuthorities") d none) refl)
    (λ d none. rw none refl)
