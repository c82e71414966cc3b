-- The tables of entries of logs are those of their records.
use Rattle.std.proofs.Common.{pos, [], codes, refl}
use Rattle.sig_json.specs.Kinds.{bytes_of, i64_of, text_of}
use Rattle.sig_json.specs.Member.{list_each}
use Rattle.sig_document_fault.proofs.CommonTables.{bytes_is, i64_is, log_id_is, text_is}
use Rattle.sig_bundle.specs.BundleRecord.{checkpoint_envelope_of, entry_of, kind_version_of, promise_of, proof_of}
use Rattle.sig_json.specs.CommonRecord.{log_id_of}
use Rattle.sig_document_fault.specs.BundleTable.{checkpoint_table, entry_table, kind_version_table, promise_table}
use Rattle.sig_document_fault.specs.BundleTable.{proof_table}
use Rattle.sig_document_fault.specs.CommonTable.{log_id_table}
use Rattle.sig_table.proofs.RecordTables.{elements_table, not_optional, one_member, optional_holds, optional_or_holds}
use Rattle.sig_table.proofs.RecordTables.{record_is, step}
use Rattle.sig_table.specs.Kinds.{bytes_table, i64_table, text_table}
use Rattle.sig_table.specs.Table.{elements}
use Rattle.sig_table.specs.TableOf.{IsTableOf}

pub promise_is : IsTableOf promise_of promise_table
unfolding promise_table
promise_is = one_member [] bytes_of bytes_table bytes_is (codes "signedEntryTimestamp")

pub checkpoint_is : IsTableOf checkpoint_envelope_of checkpoint_table
unfolding checkpoint_table
checkpoint_is = one_member [] text_of text_table text_is (codes "envelope")

pub kind_version_is : IsTableOf kind_version_of kind_version_table
unfolding kind_version_table kind_version_of
kind_version_is =
    record_is kind_version_of kind_version_table
    (λ ms. step _ _ _ _ (optional_or_holds [] text_of text_table text_is (codes "kind") ms)
    (λ _ _. step _ _ _ _ (optional_or_holds [] text_of text_table text_is (codes "version") ms) (λ _ _. refl)))
    (λ d none. rw (not_optional [] text_of (codes "kind") d none) refl)
    (λ d none. rw none refl)

pub proof_is : IsTableOf proof_of proof_table
unfolding proof_table proof_of
proof_is =
    record_is proof_of proof_table
    (λ ms. step _ _ _ _ (optional_or_holds (pos 0) i64_of i64_table i64_is (codes "logIndex") ms)
    (λ _ _. step _ _ _ _ (optional_or_holds [] bytes_of bytes_table bytes_is (codes "rootHash") ms)
    (λ _ _. step _ _ _ _ (optional_or_holds (pos 0) i64_of i64_table i64_is (codes "treeSize") ms)
    (λ _ _. step _ _ _ _ (optional_or_holds [] (list_each bytes_of) (elements bytes_table)
    (elements_table bytes_of bytes_table bytes_is) (codes "hashes") ms)
    (λ _ _. step _ _ _ _ (optional_holds checkpoint_envelope_of checkpoint_table checkpoint_is (codes "checkpoint") ms)
    (λ _ _. refl))))))
    (λ d none. rw (not_optional (pos 0) i64_of (codes "logIndex") d none) refl)
    (λ d none. rw none refl)

pub entry_is : IsTableOf entry_of entry_table
unfolding entry_table entry_of
entry_is =
    record_is entry_of entry_table
    (λ ms. step _ _ _ _ (optional_or_holds (pos 0) i64_of i64_table i64_is (codes "logIndex") ms)
    (λ _ _. step _ _ _ _ (optional_holds log_id_of log_id_table log_id_is (codes "logId") ms)
    (λ _ _. step _ _ _ _ (optional_holds kind_version_of kind_version_table kind_version_is (codes "kindVersion") ms)
    (λ _ _. step _ _ _ _ (optional_or_holds (pos 0) i64_of i64_table i64_is (codes "integratedTime") ms)
    (λ _ _. step _ _ _ _ (optional_holds promise_of promise_table promise_is (codes "inclusionPromise") ms)
    (λ _ _. step _ _ _ _ (optional_holds proof_of proof_table proof_is (codes "inclusionProof") ms)
    (λ _ _. step _ _ _ _ (optional_or_holds [] bytes_of bytes_table bytes_is (codes "canonicalizedBody") ms)
    (λ _ _. refl))))))))
    (λ d none. rw (not_optional (pos 0) i64_of (codes "logIndex") d none) refl)
    (λ d none. rw none refl)
