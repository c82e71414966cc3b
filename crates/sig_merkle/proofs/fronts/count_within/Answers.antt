use Rattle.sig_merkle.proofs.FrontLists.{within-more, within-past}
use Rattle.sig_merkle.proofs.fronts.count_within.Goals as goal

pub returns-then-count-most-clause-value : goal.returns-then-count-most-clause-value
returns-then-count-most-clause-value c =
    within-past _ _ _ _ c.counts.invariant c.counts-test.true c.if-count-most.true

pub counts-preserved : goal.counts-preserved
counts-preserved c = within-more _ _ _ _ c.counts.invariant c.counts-test.true c.if-count-most.false
