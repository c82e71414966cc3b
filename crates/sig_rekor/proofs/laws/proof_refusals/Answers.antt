use Rattle.sig_rekor.proofs.Refusals.{proof-refusals}
use Rattle.sig_rekor.proofs.laws.proof_refusals.Goals as goal

pub returns : goal.returns
returns c = proof-refusals
