use Rattle.std.proofs.Common.{◌≡◌, drop}
use Rattle.serde_json.specs.Find.{get_member}
use Rattle.sig_json.specs.View.{members_view}
use Rattle.sig_json.proofs.order.first_of_name.Given as goal

-- no member so far has the name: what is left decides
abbrev pub invariant-members : goal.invariant-members
invariant-members l =
    get_member l.fn.name (members_view l.fn.members)
    ≡ get_member l.fn.name (members_view (drop l.member-index l.members))
