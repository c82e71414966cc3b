-- The indices of those so far.
use Rattle.std.proofs.Common.{arith}
use Rattle.sig_evidence.proofs.AnchorPlaces.{places_more}
use Rattle.sig_evidence.specs.Issuer.{places_from}
use Rattle.sig_evidence.proofs.issuer.places_of.Goals as goal

pub anchors-init : goal.anchors-init
unfolding places_from
anchors-init c = c.new-places.ensures

pub anchors-preserved : goal.anchors-preserved
anchors-preserved c =
    places_more c.args.name.now c.args.anchors.now c.anchors.place c.index-anchors-place.result c.anchors.places
    c.push_if.new.places (omega (arith, c.anchors-test.true)) c.index-anchors-place.is c.anchors.invariant
    c.in_ok-push_if.ensures
