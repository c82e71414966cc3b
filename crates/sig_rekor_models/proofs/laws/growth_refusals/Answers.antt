use Rattle.sig_rekor_models.proofs.Refusals.{growth-refusals}
use Rattle.sig_rekor_models.proofs.laws.growth_refusals.Goals as goal

pub returns : goal.returns
returns c = growth-refusals
