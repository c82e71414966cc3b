use Rattle.sig_rekor.proofs.SignatureFaults.{signature-faults}
use Rattle.sig_rekor.proofs.laws.signature_faults.Goals as goal

pub returns : goal.returns
returns c = signature-faults
