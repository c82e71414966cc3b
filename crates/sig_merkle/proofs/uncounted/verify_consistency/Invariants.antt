use Rattle.sig_merkle.proofs.uncounted.verify_consistency.Given as goal

abbrev pub ghosts-verify_consistency_on : goal.ghosts-verify_consistency_on
ghosts-verify_consistency_on a = record { name = a.blank.name; parts = a.blank.parts }
