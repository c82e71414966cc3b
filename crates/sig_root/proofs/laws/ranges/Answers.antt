use Rattle.std.proofs.Common.{refl}
use Rattle.sig_root.proofs.RangeEnds.{early, ended, endless, startless, within}
use Rattle.sig_root.proofs.laws.ranges.Goals as goal

pub returns-clause-absent : goal.returns-clause-absent
returns-clause-absent c = λ now. (refl, refl)

pub returns-clause-startless : goal.returns-clause-startless
returns-clause-startless c = startless

pub returns-clause-early : goal.returns-clause-early
returns-clause-early c = early

pub returns-clause-endless : goal.returns-clause-endless
returns-clause-endless c = endless

pub returns-clause-within : goal.returns-clause-within
returns-clause-within c = within

pub returns-clause-ended : goal.returns-clause-ended
returns-clause-ended c = ended
