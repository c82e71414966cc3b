use Rattle.std.proofs.Common.{◌≡◌, map, take}
use Rattle.sig_x509.specs.Possible.{is_named}
use Rattle.sig_x509.proofs.reach.signers_of.Given as goal

-- the row so far
abbrev pub invariant-further : goal.invariant-further
invariant-further l = l.row ≡ map (is_named l.certificate) (take l.other-index l.further)
