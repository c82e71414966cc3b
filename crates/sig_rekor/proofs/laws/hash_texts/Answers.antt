use Rattle.sig_rekor.proofs.HashFaults.{hash-is, hash-faults, hashes-are, hashes-faults}
use Rattle.sig_rekor.proofs.laws.hash_texts.Goals as goal

pub returns : goal.returns
returns c = record { hash = hash-is; fault = hash-faults; hashes = hashes-are; first = hashes-faults }
