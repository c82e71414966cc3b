use Rattle.sig_bundle.proofs.ProofLaws.{proof-fails, proof-only_fails}
use Rattle.sig_bundle.proofs.laws.proof_faults.Goals as goal

pub returns : goal.returns
returns c fields error = (proof-fails fields error, proof-only_fails fields error)
