-- The tables of certificates, of chains of them and of ids of logs are those of their records.
use Rattle.std.proofs.Common.{[], codes}
use Rattle.sig_json.specs.Kinds.{bytes_of, i64_of, text_of}
use Rattle.sig_json.specs.Member.{list_each}
use Rattle.sig_json.specs.CommonRecord.{certificate_of, chain_of, log_id_of}
use Rattle.sig_document_fault.specs.CommonTable.{certificate_table, chain_table, log_id_table}
use Rattle.sig_table.proofs.RecordTables.{beyond_range_table, elements_table, one_member, other_kind_table}
use Rattle.sig_table.specs.Kinds.{bytes_table, i64_table, text_table}
use Rattle.sig_table.specs.Table.{elements}
use Rattle.sig_table.specs.TableOf.{IsTableOf}

pub bytes_is : IsTableOf bytes_of bytes_table
bytes_is = other_kind_table bytes_of

pub text_is : IsTableOf text_of text_table
text_is = other_kind_table text_of

pub i64_is : IsTableOf i64_of i64_table
i64_is = beyond_range_table i64_of

pub certificate_is : IsTableOf certificate_of certificate_table
unfolding certificate_table
certificate_is = one_member [] bytes_of bytes_table bytes_is (codes "rawBytes")

pub chain_is : IsTableOf chain_of chain_table
unfolding chain_table
chain_is =
    one_member [] (list_each certificate_of) (elements certificate_table)
    (elements_table certificate_of certificate_table certificate_is) (codes "certificates")

pub log_id_is : IsTableOf log_id_of log_id_table
unfolding log_id_table
log_id_is = one_member [] bytes_of bytes_table bytes_is (codes "keyId")
