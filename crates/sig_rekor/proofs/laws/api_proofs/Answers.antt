use Rattle.sig_rekor.proofs.ProofFaults.{proof-is, proof-faults}
use Rattle.sig_rekor.proofs.laws.api_proofs.Goals as goal

pub returns : goal.returns
returns c = record { proof = proof-is; fault = proof-faults }
