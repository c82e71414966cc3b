-- One more text.
use Rattle.sig_policy.proofs.SetLaws.{set_more}
use Rattle.sig_policy.proofs.identity_set.set_of.Goals as goal

pub loop-text-preserved : goal.loop-text-preserved
loop-text-preserved c = λ q.
    set_more c.args.texts.now c.loop-text.text-index _ c.loop-text.set.keys c.insert.new.self.keys q
    c.loop-text-test.true c.in_ok-insert.ensures.keys (c.loop-text.invariant q)
