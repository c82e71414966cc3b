use Rattle.sig_rekor_models.proofs.Refusals.{head-is, head-faults}
use Rattle.sig_rekor_models.proofs.laws.api_heads.Goals as goal

pub returns : goal.returns
returns c = record { head = head-is; fault = head-faults }
