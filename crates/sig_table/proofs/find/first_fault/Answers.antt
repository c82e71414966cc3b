use Rattle.sig_json.specs.Tree.{tree}
use Rattle.sig_table.proofs.Faults.{first_told, none_told}
use Rattle.sig_table.proofs.find.first_fault.Goals as goal

pub returns-in-Ok-clause-first : goal.returns-in-Ok-clause-first
returns-in-Ok-clause-first g c = none_told g.T.MemberTable.table (tree c.args.json) c.in-Ok.ensures

pub returns-in-Err-Fault-clause-first : goal.returns-in-Err-Fault-clause-first
returns-in-Err-Fault-clause-first g c =
    first_told g.T.MemberTable.table (tree c.args.json) c.in-Err-Fault.fault
    (rw c.in-Err-Fault.field-0-is at c.in-Err-Fault.ensures)
