use Rattle.std.proofs.Common.{◌∙◌}
use Rattle.sig_json.specs.Tree.{tree}
use Rattle.sig_request_fault.specs.AuditTable.{watch_table}
use Rattle.sig_table.proofs.Elements.{element_sound, element_wrong}
use Rattle.sig_table.specs.Fault.{fault_of}
use Rattle.sig_request_fault.proofs.audit.watches.Goals as goal

pub returns-in-Err : goal.returns-in-Err
returns-in-Err c =
    element_wrong (fault_of (watch_table c.args.count)) (tree c.args.json) (tree c.in-Some-item.element) c.in-Some.len
    c.elements.index c.in-Err.error c.after_index.result _ c.in-Some.ensures c.elements-test.true
    c.in-Some-item.ensures c.in-Err.ensures c.after_index.ensures c.elements.invariant

pub elements-preserved : goal.elements-preserved
elements-preserved c =
    c.elements.invariant
    ∙ element_sound (fault_of (watch_table c.args.count)) (tree c.args.json) (tree c.in-Some-item.element)
    c.in-Some.len c.elements.index c.in-Some.ensures c.elements-test.true c.in-Some-item.ensures
    c.in_default-watch.ensures
