-- Each comparison leaves a part of the places, until the signer is found or no place is left.
use Rattle.std.proofs.Common.{ℕ, Some, sym, ap, ◌∙◌, arith}
use Rattle.sig_x509.specs.KeyOrder.{indices_of}
use Rattle.sig_x509.proofs.KeyOrders.{found_first, none_left, part_after, part_before}
use Rattle.sig_x509.proofs.by_key.first_of_key.Goals as goal
use Rattle.sig_x509.proofs.by_key.first_of_key.Goals.{in-Less, in-Greater}

pub places-preserved : goal.places-preserved
places-preserved c = elim c.match-compare.branch [
  | in-Less w ↦
      rw (w.low-is, w.high-is)
      (part_after c.args.order.now.from c.args.anchors.now (indices_of c.args.order.now)
      c.requires.holds.order c.args.wanted.now.subject.now
      c.args.wanted.now.spki.now c.places.low c.places.high c.place_in-place.result c.places.invariant
      c.place_in-place.ensures.from c.place_in-place.ensures.before (sym c.compare.ensures ∙ w.in-Less.is))
  | in-Greater w ↦
      rw (w.low-is, w.high-is)
      (part_before c.args.order.now.from c.args.anchors.now (indices_of c.args.order.now)
      c.requires.holds.order c.args.wanted.now.subject.now
      c.args.wanted.now.spki.now c.places.low c.places.high c.place_in-place.result c.places.invariant
      c.place_in-place.ensures.from c.place_in-place.ensures.before (sym c.compare.ensures ∙ w.in-Greater.is))
]

pub returns-in-Equal : goal.returns-in-Equal
returns-in-Equal c =
    ap (λ (index : ℕ). Some index) c.index_at.ensures
    ∙ found_first c.args.order.now.from c.args.anchors.now (indices_of c.args.order.now)
    c.requires.holds.order c.args.wanted.now.subject.now
    c.args.wanted.now.spki.now c.place_in-place.result
    (omega (arith, c.place_in-place.ensures.before, c.places.invariant.within))
    (sym c.compare.ensures ∙ c.in-Equal.is)

pub returns : goal.returns
returns c =
    none_left c.args.order.now.from c.args.anchors.now (indices_of c.args.order.now)
    c.requires.holds.order c.args.wanted.now.subject.now c.args.wanted.now.spki.now
    c.places.low c.places.high c.places.invariant c.places-test.false
