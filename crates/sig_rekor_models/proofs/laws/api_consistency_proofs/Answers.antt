use Rattle.sig_rekor_models.proofs.Refusals.{consistency-is, consistency-faults}
use Rattle.sig_rekor_models.proofs.laws.api_consistency_proofs.Goals as goal

pub returns : goal.returns
returns c = record { proof = consistency-is; fault = consistency-faults }
