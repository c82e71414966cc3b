use Rattle.sig_verify.proofs.RootVerdicts.{roots_are_judged}
use Rattle.sig_verify.proofs.laws.roots.Goals as goal

pub returns : goal.returns
returns c = roots_are_judged
