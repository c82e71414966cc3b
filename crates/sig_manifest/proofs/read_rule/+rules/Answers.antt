-- An item that is not a rule: then the list is not one of rules.
use Rattle.std.proofs.Common.{◌≡◌, None, arith}
use Rattle.std.proofs.lemmas.Grind.{common_steps}
use Rattle.sig_json.specs.Tree.{tree}
use Rattle.sig_manifest.proofs.Elements.{items-refused}
use Rattle.sig_manifest.specs.Formula.{rules_view}
use Rattle.sig_manifest.specs.RuleTable.{rule_within, rules_in}
use Rattle.sig_manifest.proofs.read_rule.+rules.Goals as goal

pub read_rules-returns-in_err-read_rule : goal.read_rules-returns-in_err-read_rule
read_rules-returns-in_err-read_rule t c =
    let refused : rule_within c.args.levels (tree c.in-Some-item.item) ≡ None
    → rules_in (rule_within c.args.levels) (tree c.args.list) ≡ None =
    λ none. items-refused (rule_within c.args.levels) (tree c.args.list) c.in-Some.count c.rules.place
    (tree c.in-Some-item.item) (rules_view c.rules.rules) c.in-Some.ensures c.in-Some-item.ensures none
    c.rules.invariant in
    grind (arith, common_steps, refused)
