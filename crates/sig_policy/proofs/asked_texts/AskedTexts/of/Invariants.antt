use Rattle.std.proofs.Common.{take}
use Rattle.sig_policy.specs.AskedTexts.{AreAskedBy}
use Rattle.sig_policy.proofs.asked_texts.AskedTexts.of.Given as goal

-- what the rules so far ask for
abbrev pub invariant-loop-rule : goal.invariant-loop-rule
invariant-loop-rule l = AreAskedBy (take l.rule-index l.rules) l.asked
