use Rattle.sig_verify.proofs.LongerChains.{longer_chains_stay_valid}
use Rattle.sig_verify.proofs.laws.longer_chains.Goals as goal

pub returns : goal.returns
returns c = longer_chains_stay_valid
