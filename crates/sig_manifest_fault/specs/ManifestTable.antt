-- *Tables* of a manifest and of its artifacts: the rows in the order in which docs/REQUESTS.md has the members.
use Rattle.std.specs.Prelude.{List, [], ◌∷◌, codes, Option, Some, None, if◌then◌else◌}
use Rattle.sig_base.specs.OptionSteps.{◌>>=◌}
use Rattle.sig_json.specs.Data.{Data}
use Rattle.sig_json.specs.Member.{list_each}
use Rattle.sig_manifest.specs.Artifact.{Asked, artifact_of, name_kind}
use Rattle.sig_manifest.specs.Manifest.{is_within}
use Rattle.sig_manifest.specs.RuleTable.{rule_of}
use Rattle.sig_manifest_fault.specs.Range.{range_table}
use Rattle.sig_manifest_fault.specs.RuleTable.{nested}
use Rattle.sig_manifest_fault.specs.Values.{values_table}
use Rattle.sig_request_fault.specs.PolicyTable.{policy_table}
use Rattle.sig_request_fault.specs.RequestTable.{digest_table}
use Rattle.sig_request_fault.specs.RowTable.{accepted_table}
use Rattle.sig_table.specs.Kinds.{i64_table, other_kind, text_table}
use Rattle.sig_table.specs.Table.{Table, leaf, elements, optional_row, required_row, record_table}

-- the text of an artifact's name
abbrev pub name_table : Table
name_table = leaf (other_kind name_kind)

-- an artifact; its rule is first one in which rules nest to at most 64 levels, and then one that has at most 64 nodes
unfoldable pub artifact_table : Table
artifact_table =
    record_table (
    required_row (codes "name") name_table
    ∷ required_row (codes "digest") digest_table
    ∷ required_row (codes "root") text_table
    ∷ required_row (codes "policy") text_table
    ∷ optional_row (codes "bundles") (elements text_table)
    ∷ required_row (codes "rule") (nested 64)
    ∷ required_row (codes "rule") (range_table rule_of)
    ∷ []
    )

-- the artifacts, if a manifest may have this many artifacts and bundles
abbrev pub within : List Asked → Option (List Asked)
within artifacts = if is_within artifacts then Some artifacts else None

unfoldable pub artifacts_kind : Data → Option (List Asked)
artifacts_kind d = list_each artifact_of d >>= within

-- a manifest, whatever its artifacts name; of these first that each is one, and then how many they are
unfoldable pub manifest_table : Table
manifest_table =
    record_table (
    required_row (codes "now") i64_table
    ∷ required_row (codes "roots") (values_table text_table)
    ∷ required_row (codes "policies") (values_table policy_table)
    ∷ optional_row (codes "accepted") accepted_table
    ∷ required_row (codes "artifacts") (elements artifact_table)
    ∷ required_row (codes "artifacts") (range_table artifacts_kind)
    ∷ []
    )
