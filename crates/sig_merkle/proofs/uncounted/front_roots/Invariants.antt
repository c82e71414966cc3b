use Rattle.sig_merkle.proofs.uncounted.front_roots.Given as goal

abbrev pub ghosts-front_roots_on : goal.ghosts-front_roots_on
ghosts-front_roots_on a = record { name = a.blank.name; parts = a.blank.parts }
