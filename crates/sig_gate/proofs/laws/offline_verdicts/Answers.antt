use Rattle.sig_gate.proofs.VerdictLaws.{verdicts_are_of_offline}
use Rattle.sig_gate.proofs.laws.offline_verdicts.Goals as goal

pub returns : goal.returns
returns c = verdicts_are_of_offline
