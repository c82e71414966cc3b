-- *Table* of the request of `witness`: the rows in the order in which docs/REQUESTS.md has the members.
use Rattle.std.specs.Prelude.{[], ◌∷◌, codes}
use Rattle.sig_request_fault.specs.RowTable.{accepted_table, scheme_table}
use Rattle.sig_table.specs.Chosen.{is_between, sized}
use Rattle.sig_table.specs.Kinds.{bytes_table, hash_table, text_table, u64_table}
use Rattle.sig_table.specs.Table.{Table, elements, optional_row, required_row, record_table}

-- a log that is added
unfoldable pub origin_table : Table
origin_table =
    record_table (
    required_row (codes "origin") text_table
    ∷ required_row (codes "scheme") scheme_table
    ∷ required_row (codes "key") bytes_table
    ∷ []
    )

unfoldable pub update_table : Table
update_table =
    record_table (
    required_row (codes "checkpoint") text_table
    ∷ required_row (codes "oldSize") u64_table
    ∷ optional_row (codes "hashes") (elements hash_table)
    ∷ []
    )

-- at most 4,096 of them
unfoldable pub updates_table : Table
updates_table = sized (is_between 0 4096) update_table

unfoldable pub witness_table : Table
witness_table =
    record_table (
    optional_row (codes "state") text_table
    ∷ optional_row (codes "origins") (elements origin_table)
    ∷ optional_row (codes "updates") updates_table
    ∷ optional_row (codes "accepted") accepted_table
    ∷ []
    )
