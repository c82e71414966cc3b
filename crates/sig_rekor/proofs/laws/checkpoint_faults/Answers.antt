use Rattle.sig_rekor.proofs.CheckpointFaults.{checkpoint-faults}
use Rattle.sig_rekor.proofs.laws.checkpoint_faults.Goals as goal

pub returns : goal.returns
returns c = checkpoint-faults
