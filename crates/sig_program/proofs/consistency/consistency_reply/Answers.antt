-- What second lines mean.
use Rattle.sig_program.proofs.Fronts.{fronts_agree, trivial_fronts}
use Rattle.sig_program.proofs.consistency.consistency_reply.Goals as goal

pub returns-clause-trivial : goal.returns-clause-trivial
returns-clause-trivial c = trivial_fronts

pub returns-clause-agree : goal.returns-clause-agree
returns-clause-agree c = fronts_agree
