use Rattle.sig_merkle.proofs.FrontSteps.{front-none}
use Rattle.sig_merkle.proofs.front.front_roots.Goals as goal

pub returns-then-count-eq0-clause-old : goal.returns-then-count-eq0-clause-old
returns-then-count-eq0-clause-old g c = front-none _ _ _ c.if-count-eq0.true c.empty_root-old.ensures
