use Rattle.sig_x509.proofs.uncounted.verify_der_cert.Given as goal

abbrev pub ghosts-der_on : goal.ghosts-der_on
ghosts-der_on g a = record { name = a.blank.name; parts = a.blank.parts }
