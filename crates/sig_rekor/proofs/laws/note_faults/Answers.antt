use Rattle.sig_rekor.proofs.NoteFaults.{note-faults}
use Rattle.sig_rekor.proofs.laws.note_faults.Goals as goal

pub returns : goal.returns
returns c = note-faults
