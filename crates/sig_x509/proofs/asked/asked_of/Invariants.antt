use Rattle.sig_x509.proofs.AskedAnchors.{AreAskedSoFar}
use Rattle.sig_x509.proofs.asked.asked_of.Given as goal

-- those of the anchors so far
abbrev pub invariant-anchors : goal.invariant-anchors
invariant-anchors l = AreAskedSoFar l.anchors l.index l.seen l.asked.items
