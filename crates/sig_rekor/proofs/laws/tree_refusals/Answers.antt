use Rattle.sig_rekor.proofs.Refusals.{tree-refusals}
use Rattle.sig_rekor.proofs.laws.tree_refusals.Goals as goal

pub returns : goal.returns
returns c = tree-refusals
