-- The counter is of the ledger of its blank.
use Rattle.base_cases.proofs.walks.both_ways.Given as goal

abbrev pub ghosts-push_paths : goal.ghosts-push_paths
ghosts-push_paths a = record { name = a.blank.name; parts = a.blank.parts }
