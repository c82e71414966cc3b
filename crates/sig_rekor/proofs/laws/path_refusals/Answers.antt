use Rattle.sig_rekor.proofs.Refusals.{path-refusals}
use Rattle.sig_rekor.proofs.laws.path_refusals.Goals as goal

pub returns : goal.returns
returns c = path-refusals
