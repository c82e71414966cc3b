use Rattle.sig_gate.proofs.VerdictLaws.{verdicts_are_exact}
use Rattle.sig_gate.proofs.laws.exact_verdicts.Goals as goal

pub returns : goal.returns
returns c = verdicts_are_exact
