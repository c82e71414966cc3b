use Rattle.sig_merkle.proofs.tree.root_in.Given as goal

abbrev pub ghosts-root_on : goal.ghosts-root_on
ghosts-root_on a = record { name = a.blank.name; parts = a.blank.parts }
