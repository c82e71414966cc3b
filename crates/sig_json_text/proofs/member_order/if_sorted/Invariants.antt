use Rattle.std.proofs.Common.{◌≡◌, [], drop, map}
use Rattle.sig_json.specs.View.{members_view}
use Rattle.sig_json_text.specs.Writes.{by_units, pair_of}
use Rattle.sig_json_text.proofs.AscendingMembers.{AreUpTo, spelled}
use Rattle.sig_json_text.proofs.member_order.if_sorted.Given as goal

-- the members so far are as they come, and those that are left are to go in
abbrev pub invariant-members : goal.invariant-members
invariant-members l =
    (by_units (members_view l.fn.members.items) []
    ≡ by_units (members_view (drop l.member-index l.member-items)) (spelled (map pair_of l.sorted.items)))
    × AreUpTo l.last.items (map pair_of l.sorted.items)
