-- The policies hold by what the certificate says.
use Rattle.sig_policy.proofs.request.RequestPolicy.holds_of.Goals as goal

pub returns-in-All : goal.returns-in-All
returns-in-All c = rw (c.in-All.is, ← c.as_slice.ensures, ← c.in_ok-said.ensures) c.all_hold.ensures

pub returns : goal.returns
returns c = rw (c.in-Any.is, ← c.as_slice-in-Any.ensures, ← c.in_ok-said.ensures) c.any_holds.ensures
