use Rattle.std.proofs.Common.{◌≡◌, map, take}
use Rattle.sig_x509.specs.NamedAnchors.{at_places}
use Rattle.sig_x509.proofs.trust_anchors.at_places.Given as goal

-- those at the indices so far
abbrev pub invariant-places : goal.invariant-places
invariant-places l = map (λ x. x.now) l.found.items ≡ at_places l.anchors (take l.place-index l.places)
