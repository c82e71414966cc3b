use Rattle.std.proofs.Common.{◌≡◌, drop}
use Rattle.sig_json.specs.Tree.{tree}
use Rattle.sig_table.proofs.Elements.{elements_of}
use Rattle.sig_table.specs.Fault.{elements_fault, fault_of}
use Rattle.sig_table.specs.Table.{elements}
use Rattle.sig_table.proofs.list.ListOfMemberTable.check.Given as goal

-- the elements so far are sound: those that are left decide
abbrev pub invariant-elements : goal.invariant-elements
invariant-elements g l =
    fault_of (elements g.T.MemberTable.table) (tree l.json)
    ≡ elements_fault (fault_of g.T.MemberTable.table) l.index (drop l.index (elements_of (tree l.json)))
