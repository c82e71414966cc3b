use Rattle.std.proofs.Common.{◌≤◌, ◌+◌, ◌*◌}
use Rattle.sig_json.specs.Data.{depth}
use Rattle.sig_json.specs.Tree.{tree}
use Rattle.sig_json.specs.Walk.{members_left}
use Rattle.sig_payload.proofs.ValueDepths.{deepest}
use Rattle.sig_payload.proofs.show.+show.Given as goal

-- the parts of a value are below it
abbrev pub decreases-write_value : goal.decreases-write_value
decreases-write_value g l = 2 * depth (tree l.value) + 1

abbrev pub decreases-write_members : goal.decreases-write_members
decreases-write_members g l = 2 * deepest (members_left l.members) + 2

abbrev pub decreases-write_list : goal.decreases-write_list
decreases-write_list g l = 2 * depth (tree l.list)

-- the members that are left are among all
abbrev pub invariant-write_members-members : goal.invariant-write_members-members
invariant-write_members-members g l = deepest (members_left l.name-iterator) ≤ deepest (members_left l.fn.members)
