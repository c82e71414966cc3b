-- The counter is of the ledger of its blank.
use Rattle.sig_bench.proofs.merkle.walked.Given as goal

abbrev pub ghosts-root_on : goal.ghosts-root_on
ghosts-root_on a = record { name = a.blank.name; parts = a.blank.parts }
