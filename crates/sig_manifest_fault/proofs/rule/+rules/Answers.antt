use Rattle.std.proofs.Common.{◌∙◌}
use Rattle.sig_json.specs.Tree.{tree}
use Rattle.sig_manifest_fault.specs.RuleTable.{nested}
use Rattle.sig_table.proofs.Elements.{element_sound, element_wrong}
use Rattle.sig_table.specs.Fault.{fault_of}
use Rattle.sig_manifest_fault.proofs.rule.+rules.Goals as goal

pub each_rule-returns-in-Err : goal.each_rule-returns-in-Err
each_rule-returns-in-Err t c =
    element_wrong (fault_of (nested c.args.levels)) (tree c.args.json) (tree c.in-Some-item.element) c.in-Some.count
    c.elements.index c.in-Err.error c.after_index.result _ c.in-Some.ensures c.elements-test.true
    c.in-Some-item.ensures c.in-Err.ensures c.after_index.ensures c.elements.invariant

pub each_rule-elements-preserved : goal.each_rule-elements-preserved
each_rule-elements-preserved t c =
    c.elements.invariant
    ∙ element_sound (fault_of (nested c.args.levels)) (tree c.args.json) (tree c.in-Some-item.element) c.in-Some.count
    c.elements.index c.in-Some.ensures c.elements-test.true c.in-Some-item.ensures c.in_default-rule.ensures
