use Rattle.sig_merkle.proofs.Levels.{split_of, split_unique}
use Rattle.sig_merkle.proofs.laws.splits.Goals as goal

pub returns : goal.returns
returns c = record { exists = split_of; unique = split_unique }
