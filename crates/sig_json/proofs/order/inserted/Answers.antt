use Rattle.std.proofs.Common.{◌≡◌, [], rules}
use Rattle.sig_json.proofs.OrderedMembers.{in_order-none, in_order-put}
use Rattle.sig_json.proofs.order.inserted.Goals as goal

pub members-init : goal.members-init
members-init c =
    let none : c.in_ok-ordered.ordered.items ≡ [] = c.in_ok-ordered.ensures.items in
    rw none (search rules, in_order-none)

pub members-preserved : goal.members-preserved
members-preserved c =
    (rw c.in_ok-put.ensures.ok (search rules), in_order-put _ _ _ _ c.members.invariant.1 c.in_ok-put.ensures.ok)
