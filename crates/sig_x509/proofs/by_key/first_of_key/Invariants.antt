use Rattle.std.proofs.Common.{◌-◌}
use Rattle.sig_x509.specs.KeyOrder.{IsPart, indices_of}
use Rattle.sig_x509.proofs.by_key.first_of_key.Given as goal

-- the signer is from low to before high, if it has a place
abbrev pub invariant-places : goal.invariant-places
invariant-places l =
    IsPart l.order.from l.anchors (indices_of l.order) (l.wanted.subject.now, l.wanted.spki.now) l.low l.high

abbrev pub decreases-places : goal.decreases-places
decreases-places l = l.high - l.low
