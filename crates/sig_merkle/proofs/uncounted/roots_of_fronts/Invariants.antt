use Rattle.sig_merkle.proofs.uncounted.roots_of_fronts.Given as goal

abbrev pub ghosts-roots_of_fronts_on : goal.ghosts-roots_of_fronts_on
ghosts-roots_of_fronts_on a = record { name = a.blank.name; parts = a.blank.parts }
