use Rattle.std.proofs.Common.{◌≡◌, ◌+◌, ◌*◌, drop}
use Rattle.sig_json.specs.Member.{each}
use Rattle.sig_json.specs.Tree.{tree}
use Rattle.sig_manifest.proofs.Elements.{elements_of, read_with}
use Rattle.sig_manifest.specs.Formula.{rules_view}
use Rattle.sig_manifest.specs.RuleTable.{rule_within}
use Rattle.sig_manifest.proofs.read_rule.+rules.Given as goal

-- rules in a rule have a level less
abbrev pub decreases-read_rule : goal.decreases-read_rule
decreases-read_rule l = 4 * l.levels

abbrev pub decreases-read_as : goal.decreases-read_as
decreases-read_as l = 4 * l.levels + 2

abbrev pub decreases-read_rules : goal.decreases-read_rules
decreases-read_rules l = 4 * l.levels + 1

-- the rules so far are read, and the items that are left decide
abbrev pub invariant-read_rules-rules : goal.invariant-read_rules-rules
invariant-read_rules-rules l =
    each (rule_within l.levels) (elements_of (tree l.list))
    ≡ read_with (rule_within l.levels) (rules_view l.rules) (drop l.place (elements_of (tree l.list)))
