-- The indices of those so far.
use Rattle.std.proofs.Common.{◌≡◌, take}
use Rattle.sig_evidence.specs.Issuer.{places_from}
use Rattle.sig_evidence.proofs.issuer.places_of.Given as goal

abbrev pub invariant-anchors : goal.invariant-anchors
invariant-anchors l = l.places ≡ places_from 0 l.name (take l.place l.anchors)
