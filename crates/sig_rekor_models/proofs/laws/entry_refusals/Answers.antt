use Rattle.sig_rekor_models.proofs.Refusals.{entry-refusals}
use Rattle.sig_rekor_models.proofs.laws.entry_refusals.Goals as goal

pub returns : goal.returns
returns c = entry-refusals
