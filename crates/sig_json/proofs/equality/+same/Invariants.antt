use Rattle.std.proofs.Common.{◌≡◌, ◌↔◌, ◌+◌, ◌*◌, length}
use Rattle.serde_json.specs.Data.{depth, items_depth, members_depth}
use Rattle.sig_json.specs.View.{view, items_view, members_view}
use Rattle.sig_json.proofs.SameTrees.{SameFrom, SameMembersFrom}
use Rattle.sig_json.proofs.equality.+same.Given as goal

-- the parts of a value are below it
abbrev pub decreases-is_same : goal.decreases-is_same
decreases-is_same l = 2 * depth (view l.a.now)

abbrev pub decreases-are_same_items : goal.decreases-are_same_items
decreases-are_same_items l = 2 * items_depth (items_view l.a.now.items) + 1

abbrev pub decreases-are_same_members : goal.decreases-are_same_members
decreases-are_same_members l = 2 * members_depth (members_view l.a.now.items) + 1

-- the lists are equal if and only if they are from this place on
abbrev pub invariant-are_same_items-items : goal.invariant-are_same_items-items
invariant-are_same_items-items l =
    ((items_view l.fn.a.items ≡ items_view l.fn.b.items) ↔ SameFrom l.fn.a.items l.fn.b.items l.place)
    × (length l.fn.a.items ≡ length l.fn.b.items)

-- the objects are equal if and only if they are from this place on
abbrev pub invariant-are_same_members-members : goal.invariant-are_same_members-members
invariant-are_same_members-members l =
    ((members_view l.fn.a.items ≡ members_view l.fn.b.items) ↔ SameMembersFrom l.fn.a.items l.fn.b.items l.place)
    × (length l.fn.a.items ≡ length l.fn.b.items)
