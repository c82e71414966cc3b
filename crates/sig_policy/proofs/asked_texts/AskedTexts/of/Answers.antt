-- One rule more.
use Rattle.std.proofs.Common.{arith}
use Rattle.sig_policy.specs.AskedTexts.{one_asked}
use Rattle.sig_policy.proofs.AskedLaws.{one_rule_more}
use Rattle.sig_policy.proofs.asked_texts.AskedTexts.of.Goals as goal

pub loop-rule-preserved : goal.loop-rule-preserved
loop-rule-preserved c = λ t.
    one_rule_more t c.args.rules.now c.loop-rule.rule-index c.rule-item.result (one_asked t c.loop-rule.asked)
    (one_asked t c.add.new.self) (omega (arith, c.loop-rule-test.true)) c.rule-item.is (c.in_ok-add.ensures t)
    (c.loop-rule.invariant t)
