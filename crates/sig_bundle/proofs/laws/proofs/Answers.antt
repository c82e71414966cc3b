use Rattle.sig_bundle.proofs.ProofLaws.{proof-found, proof-only}
use Rattle.sig_bundle.proofs.laws.proofs.Goals as goal

pub returns : goal.returns
returns c fields proof = (proof-found fields proof, proof-only fields proof)
