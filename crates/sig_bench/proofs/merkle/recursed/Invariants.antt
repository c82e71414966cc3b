-- The counter is of the ledger of its blank.
use Rattle.sig_bench.proofs.merkle.recursed.Given as goal

abbrev pub ghosts-recursed_on : goal.ghosts-recursed_on
ghosts-recursed_on a = record { name = a.blank.name; parts = a.blank.parts }
