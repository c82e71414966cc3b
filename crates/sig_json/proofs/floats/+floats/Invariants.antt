use Rattle.std.proofs.Common.{◌≡◌, drop}
use Rattle.serde_json.specs.Written.{items_have_float, members_have_float}
use Rattle.sig_json.specs.View.{items_view, members_view}
use Rattle.sig_json.proofs.floats.+floats.Given as goal

-- no float so far: what is left decides
abbrev pub invariant-is_float_among-loop-item : goal.invariant-is_float_among-loop-item
invariant-is_float_among-loop-item l =
    items_have_float (items_view l.fn.items.items) ≡ items_have_float (items_view (drop l.item-index l.item-items))

abbrev pub invariant-is_float_in_members-loop-member : goal.invariant-is_float_in_members-loop-member
invariant-is_float_in_members-loop-member l =
    members_have_float (members_view l.fn.members.items)
    ≡ members_have_float (members_view (drop l.member-index l.member-items))
