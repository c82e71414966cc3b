use Rattle.sig_x509.specs.NamedAnchors.{IsNameIndex}
use Rattle.sig_x509.proofs.trust_anchors.index_of.Given as goal

-- the index over those so far
abbrev pub invariant-anchors : goal.invariant-anchors
invariant-anchors l = IsNameIndex l.anchors l.place l.by_name
