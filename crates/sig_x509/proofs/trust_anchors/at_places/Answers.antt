use Rattle.std.proofs.Common.{sym}
use Rattle.sig_x509.proofs.NamedAnchors.{place_absent, place_there}
use Rattle.sig_x509.proofs.trust_anchors.at_places.Goals as goal
use Rattle.sig_x509.proofs.trust_anchors.at_places.Goals.{in-Some+in_ok-push, in_default}

pub places-preserved : goal.places-preserved
places-preserved c =
    elim c.match-get.branch [
      | in-Some+in_ok-push w ↦
          rw w.found-is
          (place_there c.args.anchors.now c.args.places.now c.places.place-index c.places-test.true c.places.found.items
          w.push.new.self.items w.in-Some.anchor (sym w.in-Some.ensures) c.places.invariant w.in_ok-push.ensures.items)
      | in_default w ↦
          rw w.found-is
          (place_absent c.args.anchors.now c.args.places.now c.places.place-index c.places-test.true
          c.places.found.items (sym w.in_default.ensures) c.places.invariant)
    ]
