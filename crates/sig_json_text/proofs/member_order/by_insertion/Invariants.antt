use Rattle.std.proofs.Common.{◌≡◌, [], drop}
use Rattle.sig_json.specs.View.{members_view}
use Rattle.sig_json_text.specs.Writes.{by_units}
use Rattle.sig_json_text.proofs.MemberTexts.{entries_of}
use Rattle.sig_json_text.proofs.member_order.by_insertion.Given as goal

-- the members so far are sorted, and those that are left are to go in
abbrev pub invariant-members : goal.invariant-members
invariant-members l =
    by_units (members_view l.fn.members.items) []
    ≡ by_units (members_view (drop l.member-index l.member-items)) (entries_of l.sorted.entries)
