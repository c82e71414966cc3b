use Rattle.std.proofs.Common.{◌∙◌}
use Rattle.sig_json.specs.Tree.{tree}
use Rattle.sig_table.proofs.Elements.{element_sound, element_wrong}
use Rattle.sig_table.specs.Fault.{fault_of}
use Rattle.sig_table.proofs.list.ListOfMemberTable.check.Goals as goal

pub returns-in-Err : goal.returns-in-Err
returns-in-Err g c =
    element_wrong (fault_of g.T.MemberTable.table) (tree c.args.json) (tree c.in-Some-item.element) c.in-Some.count
    c.elements.index c.in-Err.error c.after_index.result _ c.in-Some.ensures c.elements-test.true
    c.in-Some-item.ensures c.in-Err.ensures c.after_index.ensures c.elements.invariant

pub elements-preserved : goal.elements-preserved
elements-preserved g c =
    c.elements.invariant
    ∙ element_sound (fault_of g.T.MemberTable.table) (tree c.args.json) (tree c.in-Some-item.element) c.in-Some.count
    c.elements.index c.in-Some.ensures c.elements-test.true c.in-Some-item.ensures c.in_default-check.ensures
