use Rattle.std.proofs.Common.{◌≡◌, ◌+◌, ◌*◌, drop}
use Rattle.sig_json.specs.Tree.{tree}
use Rattle.sig_manifest_fault.specs.RuleTable.{nested}
use Rattle.sig_table.proofs.Elements.{elements_of}
use Rattle.sig_table.specs.Fault.{elements_fault, fault_of}
use Rattle.sig_table.specs.Table.{elements}
use Rattle.sig_manifest_fault.proofs.rule.+rules.Given as goal

-- rules in a rule have a level less
abbrev pub decreases-rule : goal.decreases-rule
decreases-rule l = 8 * l.levels

abbrev pub decreases-rule_as : goal.decreases-rule_as
decreases-rule_as l = 8 * l.levels + 5

abbrev pub decreases-rules_under : goal.decreases-rules_under
decreases-rules_under l = 8 * l.levels + 4

abbrev pub decreases-rules_row : goal.decreases-rules_row
decreases-rules_row l = 8 * l.levels + 3

abbrev pub decreases-rule_under : goal.decreases-rule_under
decreases-rule_under l = 8 * l.levels + 4

abbrev pub decreases-rule_row : goal.decreases-rule_row
decreases-rule_row l = 8 * l.levels + 3

abbrev pub decreases-rules : goal.decreases-rules
decreases-rules l = 8 * l.levels + 2

abbrev pub decreases-each_rule : goal.decreases-each_rule
decreases-each_rule l = 8 * l.levels + 1

-- the elements so far are sound: those that are left decide
abbrev pub invariant-each_rule-elements : goal.invariant-each_rule-elements
invariant-each_rule-elements l =
    fault_of (elements (nested l.levels)) (tree l.json)
    ≡ elements_fault (fault_of (nested l.levels)) l.index (drop l.index (elements_of (tree l.json)))
