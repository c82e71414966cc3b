use Rattle.std.proofs.Common.{◌≡◌, drop}
use Rattle.sig_json.specs.Tree.{tree}
use Rattle.sig_request_fault.specs.AuditTable.{watch_table}
use Rattle.sig_table.proofs.Elements.{elements_of}
use Rattle.sig_table.specs.Fault.{elements_fault, fault_of}
use Rattle.sig_table.specs.Table.{elements}
use Rattle.sig_request_fault.proofs.audit.watches.Given as goal

-- the elements so far are sound: those that are left decide
abbrev pub invariant-elements : goal.invariant-elements
invariant-elements l =
    fault_of (elements (watch_table l.count)) (tree l.json)
    ≡ elements_fault (fault_of (watch_table l.count)) l.index (drop l.index (elements_of (tree l.json)))
