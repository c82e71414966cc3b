use Rattle.std.proofs.Common.{◌≡◌, ◌+◌, drop, ap, rules, ◌∙◌, arith}
use Rattle.sig_json.specs.View.{view, members_view}
use Rattle.sig_json.proofs.Lists.{members_from}
use Rattle.sig_json_text.proofs.MemberTexts.{entries_of, members-inserted}
use Rattle.sig_json_text.specs.Canonical.{utf16_units}
use Rattle.sig_json_text.specs.Writes.{by_units}
use Rattle.sig_json_text.proofs.member_order.by_insertion.Goals as goal

-- a member goes in at its place by the units of its name
pub members-preserved : goal.members-preserved
members-preserved c =
    let l = c.members in
    let all = c.deref-member-items.result.now in
    let spelled = c.as_str-name.ensures.value in
    let are : c.in_ok-units.units.items ≡ utf16_units c.as_str-name.result.now = search rules in
    l.invariant
    ∙ ap (λ left. by_units left (entries_of l.sorted.entries))
    (members_from all l.member-index c.member-item.result (omega arith) c.member-item.is)
    ∙ members-inserted _ _ _ _ _ _ (members_view (drop (l.member-index + 1) all)) c.in_ok-insert.ensures.entries
    (are ∙ ap utf16_units spelled) (ap (λ name. (name, view c.member-item.result.1)) spelled)
