-- *Tables* of the policy of a request of `verify`, and of its rules.
use Rattle.std.specs.Prelude.{ℕ, List, [], ◌∷◌, codes, Bool, ◌||◌, nat_lt, is_some, if◌then◌else◌}
use Rattle.sig_json.specs.Data.{Data}
use Rattle.sig_table.specs.Chosen.{nothing_table, sized}
use Rattle.sig_table.specs.Kinds.{text_table}
use Rattle.sig_table.specs.Table.{Table, chosen, oneof_row, optional_row, required_row, member_in, record_table}

-- ---- a rule: one of `trigger`, `sha`, `name`, `repository`, `ref`, or `issuer`, with or without `identity`

unfoldable pub workflow_names : List (List ℕ)
workflow_names = codes "trigger" ∷ codes "sha" ∷ codes "name" ∷ codes "repository" ∷ codes "ref" ∷ []

-- a member of these is there
abbrev pub asks_workflow : Data → Bool
asks_workflow d =
    (((is_some (member_in (codes "trigger") d) || is_some (member_in (codes "sha") d))
    || is_some (member_in (codes "name") d)) || is_some (member_in (codes "repository") d))
    || is_some (member_in (codes "ref") d)

-- exactly one of them is there
unfoldable pub workflow_table : Table
workflow_table =
    record_table (
    optional_row (codes "trigger") text_table
    ∷ optional_row (codes "sha") text_table
    ∷ optional_row (codes "name") text_table
    ∷ optional_row (codes "repository") text_table
    ∷ optional_row (codes "ref") text_table
    ∷ oneof_row workflow_names
    ∷ optional_row (codes "identity") nothing_table
    ∷ optional_row (codes "issuer") nothing_table
    ∷ []
    )

-- none of them is there, so the issuer has to be there
unfoldable pub issuer_table : Table
issuer_table = record_table (optional_row (codes "identity") text_table ∷ required_row (codes "issuer") text_table ∷ [])

unfoldable pub rule_table : Table
rule_table = chosen (λ d. if asks_workflow d then workflow_table else issuer_table)

-- at least one rule
unfoldable pub rules_table : Table
rules_table = sized (nat_lt 0) rule_table

-- ---- a policy: rules under `any`, or else under `all`, and not under both

unfoldable pub any_table : Table
any_table =
    record_table (
    optional_row (codes "all") rules_table
    ∷ required_row (codes "any") rules_table
    ∷ oneof_row (codes "all" ∷ codes "any" ∷ [])
    ∷ []
    )

unfoldable pub all_table : Table
all_table = record_table (required_row (codes "all") rules_table ∷ [])

unfoldable pub policy_table : Table
policy_table = chosen (λ d. if is_some (member_in (codes "any") d) then any_table else all_table)
