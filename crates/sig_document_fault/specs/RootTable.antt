-- *Tables* of a trusted root (Sigstore trusted root format), object by object: the rows in the order in which its record
-- reads them.
use Rattle.std.specs.Prelude.{[], ◌∷◌, codes}
use Rattle.sig_document_fault.specs.CommonTable.{chain_table, log_id_table}
use Rattle.sig_root.specs.RootRecord.{time_of}
use Rattle.sig_table.specs.Kinds.{bytes_table, other_kind}
use Rattle.sig_table.specs.Table.{Table, elements, leaf, optional_row, record_table}

-- a time text
unfoldable pub time_table : Table
time_table = leaf (other_kind time_of)

unfoldable pub range_table : Table
range_table = record_table (optional_row (codes "start") time_table ∷ optional_row (codes "end") time_table ∷ [])

unfoldable pub authority_table : Table
authority_table =
    record_table (optional_row (codes "certChain") chain_table ∷ optional_row (codes "validFor") range_table ∷ [])

unfoldable pub public_key_table : Table
public_key_table =
    record_table (optional_row (codes "rawBytes") bytes_table ∷ optional_row (codes "validFor") range_table ∷ [])

unfoldable pub instance_table : Table
instance_table =
    record_table (optional_row (codes "publicKey") public_key_table ∷ optional_row (codes "logId") log_id_table ∷ [])

unfoldable pub root_table : Table
root_table =
    record_table (
    optional_row (codes "certificateAuthorities") (elements authority_table)
    ∷ optional_row (codes "tlogs") (elements instance_table)
    ∷ optional_row (codes "ctlogs") (elements instance_table)
    ∷ []
    )
