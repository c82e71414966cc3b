use Rattle.std.proofs.Common.{◌≡◌}
use Rattle.sig_json.specs.Gathered.{InOrder, gathered, put_each}
use Rattle.sig_json.specs.View.{members_view}
use Rattle.sig_json.proofs.order.inserted.Given as goal

-- the members that are left are to go in, and those that are in ascend
abbrev pub invariant-members : goal.invariant-members
invariant-members l =
    (put_each l.name-iterator.rest.items (members_view l.ordered.items) ≡ gathered l.fn.members.items)
    × InOrder l.ordered.items
