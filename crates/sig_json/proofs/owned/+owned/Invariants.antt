use Rattle.std.proofs.Common.{◌+◌, ◌*◌, length}
use Rattle.serde_json.specs.Data.{depth, items_depth, members_depth}
use Rattle.sig_json.proofs.MovedParts.{Moved}
use Rattle.sig_json.specs.Gathered.{seen}
use Rattle.sig_json.specs.View.{view, items_view, members_view}
use Rattle.sig_json.proofs.owned.+owned.Given as goal

-- what a list or an object holds nests less deep than it
abbrev pub decreases-own_tree : goal.decreases-own_tree
decreases-own_tree l = 3 * depth (view l.tree)

abbrev pub decreases-own_items : goal.decreases-own_items
decreases-own_items l = 3 * items_depth (items_view l.items.items) + 2

abbrev pub decreases-own_members : goal.decreases-own_members
decreases-own_members l = 3 * members_depth (members_view l.members.items) + 2

abbrev pub decreases-own_member : goal.decreases-own_member
decreases-own_member l = 3 * depth (view l.member.1) + 1

abbrev pub invariant-own_items-items : goal.invariant-own_items-items
invariant-own_items-items l = Moved view l.fn.items.items l.owned.items l.items.items

abbrev pub decreases-own_items-items : goal.decreases-own_items-items
decreases-own_items-items l = length l.items.items

abbrev pub invariant-own_members-members : goal.invariant-own_members-members
invariant-own_members-members l = Moved seen l.fn.members.items l.owned.items l.members.items

abbrev pub decreases-own_members-members : goal.decreases-own_members-members
decreases-own_members-members l = length l.members.items
