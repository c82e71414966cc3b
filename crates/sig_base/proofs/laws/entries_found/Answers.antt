-- Texts that ascend are distinct.
use Rattle.sig_base.proofs.TextEntries.{found_exactly, absent_exactly}
use Rattle.sig_base.proofs.laws.entries_found.Goals as goal

pub returns-clause-found : goal.returns-clause-found
returns-clause-found g c = found_exactly

pub returns-clause-absent : goal.returns-clause-absent
returns-clause-absent g c = absent_exactly
