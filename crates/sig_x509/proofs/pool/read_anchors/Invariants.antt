use Rattle.std.proofs.Common.{take}
use Rattle.sig_x509.specs.Issuance.{AreAnchors}
use Rattle.sig_x509.proofs.pool.read_anchors.Given as goal

-- the anchors so far are those of the DERs so far
abbrev pub invariant-ders : goal.invariant-ders
invariant-ders l = AreAnchors (take l.index l.ders) l.anchors
