use Rattle.sig_audit.proofs.ChainLaws.{chain-fronts}
use Rattle.sig_audit.proofs.laws.fronts.Goals as goal

pub returns : goal.returns
returns c = chain-fronts
