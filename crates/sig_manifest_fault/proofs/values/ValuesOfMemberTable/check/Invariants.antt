use Rattle.std.proofs.Common.{◌≡◌}
use Rattle.sig_json.specs.Tree.{tree}
use Rattle.sig_json.specs.Walk.{members_left}
use Rattle.sig_manifest_fault.proofs.ValueRows.{rows_left}
use Rattle.sig_manifest_fault.specs.Values.{values_table}
use Rattle.sig_table.specs.Fault.{fault_of}
use Rattle.sig_manifest_fault.proofs.values.ValuesOfMemberTable.check.Given as goal

-- the members so far are sound: those that are left decide
abbrev pub invariant-members : goal.invariant-members
invariant-members g l =
    fault_of (values_table g.T.MemberTable.table) (tree l.json)
    ≡ rows_left g.T.MemberTable.table (members_left l.name-iterator) (tree l.json)
