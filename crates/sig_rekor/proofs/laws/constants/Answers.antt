use Rattle.sig_rekor.proofs.WhiteSpace.{marks, lengths}
use Rattle.sig_rekor.proofs.laws.constants.Goals as goal

pub returns : goal.returns
returns c = record { marks = marks; lengths = lengths }
