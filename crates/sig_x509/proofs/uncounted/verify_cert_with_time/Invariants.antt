use Rattle.sig_x509.proofs.uncounted.verify_cert_with_time.Given as goal

abbrev pub ghosts-time_on : goal.ghosts-time_on
ghosts-time_on g a = record { name = a.blank.name; parts = a.blank.parts }
