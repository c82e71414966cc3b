-- *Table* of the rules of a manifest: an object with exactly one of six members, in which rules nest to a given number
-- of levels.
use Rattle.std.specs.Prelude.{ℕ, zero, suc, nat_lt, List, [], ◌∷◌, codes, Option, Some, None}
use Rattle.sig_base.specs.OptionSteps.{◌>>=◌}
use Rattle.sig_json.specs.Data.{Data}
use Rattle.sig_json.specs.Kinds.{u64_of}
use Rattle.sig_manifest.specs.Formula.{Formula}
use Rattle.sig_manifest.specs.RuleTable.{form_of, least_in}
use Rattle.sig_manifest.specs.declared.read_rule.Form.{Form}
use Rattle.sig_manifest.specs.declared.read_rule.Form.TheVariants.{Least, Origin, Size, All, Any, Not}
use Rattle.sig_manifest_fault.specs.Range.{range_table}
use Rattle.sig_table.specs.Chosen.{nothing_table, sized}
use Rattle.sig_table.specs.Kinds.{text_table, u64_table}
use Rattle.sig_table.specs.Table.{Table, leaf, chosen, oneof_row, required_row, record_table}
use Rattle.sig_table.specs.declared.fault.Cause.TheVariants.{BeyondRange}

-- ---- a value that does not have exactly one of the members: a second one is there, or `least` is absent

unfoldable pub form_names : List (List ℕ)
form_names =
    codes "least" ∷ codes "origin" ∷ codes "size" ∷ codes "all" ∷ codes "any" ∷ codes "not" ∷ []

unfoldable pub no_form_table : Table
no_form_table = record_table (oneof_row form_names ∷ required_row (codes "least") nothing_table ∷ [])

-- ---- a rule with one of them, where the rules in it keep to a table

-- how many different log bodies: from 1 to 16
unfoldable pub least_kind : Data → Option Formula
least_kind d = u64_of d >>= least_in

unfoldable pub least_table : Table
least_table =
    record_table (required_row (codes "least") u64_table ∷ required_row (codes "least") (range_table least_kind) ∷ [])

-- the one member that is there
abbrev pub one_member : List ℕ → Table → Table
one_member name table = record_table (required_row name table ∷ [])

-- a list of at least one rule
abbrev pub some_rules : Table → Table
some_rules inner = sized (nat_lt 0) inner

unfoldable pub form_table : Table → Form → Table
form_table inner Least = least_table
form_table inner Origin = one_member (codes "origin") text_table
form_table inner Size = one_member (codes "size") u64_table
form_table inner All = one_member (codes "all") (some_rules inner)
form_table inner Any = one_member (codes "any") (some_rules inner)
form_table inner Not = one_member (codes "not") inner

-- ---- a rule

abbrev pub table_of : Table → Option Form → Table
table_of inner None = no_form_table
table_of inner (Some form) = form_table inner form

-- a rule in which rules nest to at most this many levels
unfoldable pub nested : ℕ → Table
nested zero = leaf (λ d. Some BeyondRange)
nested (suc levels) = chosen (λ d. table_of (nested levels) (form_of d))
