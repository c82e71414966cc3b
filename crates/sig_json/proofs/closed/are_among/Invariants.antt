use Rattle.std.proofs.Common.{◌≡◌, drop}
use Rattle.sig_json.specs.Closed.{are_among}
use Rattle.sig_json.specs.Only.{names_of}
use Rattle.sig_json.specs.View.{members_view}
use Rattle.sig_json.proofs.closed.are_among.Given as goal

-- each member so far has one of the names: what is left decides
abbrev pub invariant-loop-member : goal.invariant-loop-member
invariant-loop-member l =
    are_among (names_of l.fn.names) (members_view l.fn.members.items)
    ≡ are_among (names_of l.fn.names) (members_view (drop l.member-index l.member-items))
