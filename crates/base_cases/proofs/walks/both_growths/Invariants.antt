-- The counter is of the ledger of its blank.
use Rattle.base_cases.proofs.walks.both_growths.Given as goal

abbrev pub ghosts-push_growths : goal.ghosts-push_growths
ghosts-push_growths a = record { name = a.blank.name; parts = a.blank.parts }
