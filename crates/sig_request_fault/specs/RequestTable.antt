-- *Tables* of the requests of `log`, `consistency` and `verify`: the rows in the order in which docs/REQUESTS.md has the
-- members.
use Rattle.std.specs.Prelude.{[], ◌∷◌, codes}
use Rattle.sig_request.specs.DigestText.{digest_kind}
use Rattle.sig_request_fault.specs.PolicyTable.{policy_table}
use Rattle.sig_request_fault.specs.RowTable.{accepted_table, entries_table, scheme_table}
use Rattle.sig_table.specs.Kinds.{bytes_table, hash_table, i64_table, other_kind, text_table, u64_table}
use Rattle.sig_table.specs.Table.{Table, leaf, elements, optional_row, required_row, record_table}

unfoldable pub log_table : Table
log_table =
    record_table (
    required_row (codes "entry") bytes_table
    ∷ required_row (codes "logIndex") i64_table
    ∷ required_row (codes "treeSize") u64_table
    ∷ required_row (codes "rootHash") hash_table
    ∷ optional_row (codes "hashes") (elements hash_table)
    ∷ required_row (codes "checkpoint") text_table
    ∷ required_row (codes "scheme") scheme_table
    ∷ required_row (codes "key") bytes_table
    ∷ optional_row (codes "accepted") accepted_table
    ∷ optional_row (codes "entries") entries_table
    ∷ []
    )

unfoldable pub consistency_table : Table
consistency_table =
    record_table (
    required_row (codes "oldSize") u64_table
    ∷ required_row (codes "oldRoot") hash_table
    ∷ required_row (codes "treeSize") u64_table
    ∷ required_row (codes "rootHash") hash_table
    ∷ optional_row (codes "hashes") (elements hash_table)
    ∷ required_row (codes "checkpoint") text_table
    ∷ required_row (codes "scheme") scheme_table
    ∷ required_row (codes "key") bytes_table
    ∷ optional_row (codes "accepted") accepted_table
    ∷ optional_row (codes "entries") entries_table
    ∷ []
    )

-- the text of an artifact's digest
unfoldable pub digest_table : Table
digest_table = leaf (other_kind digest_kind)

unfoldable pub verify_table : Table
verify_table =
    record_table (
    required_row (codes "trustedRoot") text_table
    ∷ required_row (codes "bundle") text_table
    ∷ required_row (codes "now") i64_table
    ∷ required_row (codes "digest") digest_table
    ∷ required_row (codes "policy") policy_table
    ∷ optional_row (codes "accepted") accepted_table
    ∷ optional_row (codes "entries") entries_table
    ∷ []
    )
