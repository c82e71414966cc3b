use Rattle.sig_merkle.proofs.uncounted.verify_inclusion.Given as goal

abbrev pub ghosts-verify_on : goal.ghosts-verify_on
ghosts-verify_on a = record { name = a.blank.name; parts = a.blank.parts }
