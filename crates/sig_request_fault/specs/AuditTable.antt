-- *Table* of the request of `audit`: the rows in the order in which docs/REQUESTS.md has the members.
use Rattle.std.specs.Prelude.{ℕ, [], ◌∷◌, List, codes, length, Option, Some, None}
use Rattle.sig_base.specs.OptionSteps.{◌>>=◌}
use Rattle.sig_json.specs.Data.{Data}
use Rattle.sig_json.specs.List.{list_of}
use Rattle.sig_request_fault.specs.RowTable.{accepted_table, entries_table, scheme_table}
use Rattle.sig_table.specs.Chosen.{is_between, sized}
use Rattle.sig_table.specs.Kinds.{below_table, bytes_table, hash_table, text_table, u64_table}
use Rattle.sig_table.specs.Table.{Table, elements, chosen, Row, optional_row, required_row, member_in, record_table}

unfoldable pub head_table : Table
head_table =
    record_table (
    required_row (codes "checkpoint") text_table
    ∷ optional_row (codes "hashes") (elements hash_table)
    ∷ []
    )

-- from 1 to 256 heads
unfoldable pub heads_table : Table
heads_table = sized (is_between 1 256) head_table

-- a watched entry, under one of this number of heads
unfoldable pub watch_table : ℕ → Table
watch_table count =
    record_table (
    required_row (codes "head") (below_table count)
    ∷ required_row (codes "index") u64_table
    ∷ optional_row (codes "hashes") (elements hash_table)
    ∷ required_row (codes "entry") bytes_table
    ∷ []
    )

-- at most 4,096 of them
unfoldable pub watched_table : ℕ → Table
watched_table count = sized (is_between 0 4096) (watch_table count)

-- how many heads a request has
abbrev pub list_count : Option (List Data) → ℕ
list_count None = 0
list_count (Some ds) = length ds

abbrev pub head_count : Data → ℕ
head_count d = list_count (member_in (codes "heads") d >>= list_of)

-- a request with this number of heads
abbrev pub audit_rows : ℕ → List Row
audit_rows count =
    required_row (codes "heads") heads_table
    ∷ optional_row (codes "watched") (watched_table count)
    ∷ required_row (codes "scheme") scheme_table
    ∷ required_row (codes "key") bytes_table
    ∷ optional_row (codes "accepted") accepted_table
    ∷ optional_row (codes "entries") entries_table
    ∷ []

unfoldable pub audit_table : Table
audit_table = chosen (λ d. record_table (audit_rows (head_count d)))
