-- What was written so far is the front of the list.
use Rattle.std.proofs.Common.{arith}
use Rattle.sig_json.specs.Tree.{document_tree}
use Rattle.sig_explanation.specs.Rules.{rule_tree}
use Rattle.sig_shown.proofs.Lists.{list_more}
use Rattle.sig_explanation.proofs.rules.rules_document.Goals as goal

pub rules-preserved : goal.rules-preserved
rules-preserved c =
    list_more (rule_tree c.args.certificate.now) c.args.rules.now c.rules.rule-index c.rule-item.result
    (document_tree c.rules.list) (document_tree c.in_ok-rule_document.field-0) (document_tree c.push.new.self)
    (omega (arith, c.rules-test.true)) c.rule-item.is c.rules.invariant c.in_ok-rule_document.ensures
    c.in_ok-push.ensures.ok
