use Rattle.sig_rekor_models.proofs.Refusals.{key-is, key-faults}
use Rattle.sig_rekor_models.proofs.laws.key_texts.Goals as goal

pub returns : goal.returns
returns c = record { text = key-is; fault = key-faults }
