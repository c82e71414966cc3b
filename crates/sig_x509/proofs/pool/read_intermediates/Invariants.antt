use Rattle.std.proofs.Common.{take}
use Rattle.sig_x509.specs.Pool.{AreReadAs}
use Rattle.sig_x509.proofs.pool.read_intermediates.Given as goal

-- the intermediates so far are those of the DERs so far
abbrev pub invariant-ders : goal.invariant-ders
invariant-ders l = AreReadAs (take l.der-index l.ders) l.intermediates
