use Rattle.sig_x509.proofs.uncounted.verify_cert_with_chain.Given as goal

abbrev pub ghosts-chain_on : goal.ghosts-chain_on
ghosts-chain_on g a = record { name = a.blank.name; parts = a.blank.parts }
