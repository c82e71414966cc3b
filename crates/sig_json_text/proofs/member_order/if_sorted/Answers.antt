use Rattle.std.proofs.Common.{◌≡◌, ◌+◌, ◌==◌, ◌||◌, List, ℕ, drop, map, true, ap, subst, sym, rules, ◌∙◌, arith}
use Rattle.std.specs.Ordering.{is_lt}
use Rattle.sig_json.specs.View.{view, members_view}
use Rattle.sig_json.proofs.Lists.{members_from}
use Rattle.sig_json_text.specs.Canonical.{utf16_units}
use Rattle.sig_json_text.specs.Writes.{by_units, pair_of}
use Rattle.sig_json_text.proofs.AscendingMembers.{all_spelled, cmp, one_more_member, spelled}
use Rattle.sig_json_text.proofs.member_order.if_sorted.Goals as goal

-- a member goes in at the end
pub members-preserved : goal.members-preserved
members-preserved c =
    let l = c.members in
    let all = c.deref-member-items.result.now in
    let name = c.as_str-name.ensures.value in
    let are : c.in_ok-next.next.items ≡ utf16_units c.as_str-name.result.now = search rules in
    let says : (c.len-in-members.result == 0 || is_lt (cmp l.last.items c.in_ok-next.next.items)) ≡ true =
    subst (λ (u : List ℕ). (c.len-in-members.result == 0 || is_lt (cmp u c.in_ok-next.next.items)) ≡ true)
    c.deref.ensures.value
    (subst (λ (u : List ℕ). (c.len-in-members.result == 0 || is_lt (cmp c.deref.result.now u)) ≡ true)
    c.deref-in-members.ensures.value (sym c.comes_last.ensures ∙ c.if-not-comes_last.false)) in
    let more =
    one_more_member l.sorted.items c.push.new.self.items _ _ (view c.member-item.result.1)
    (members_view (drop (l.member-index + 1) all)) l.last.items c.in_ok-next.next.items c.len-in-members.result
    c.in_ok-push.ensures.items (are ∙ ap utf16_units name) (ap (λ n. (n, view c.member-item.result.1)) name)
    l.invariant.1 (search rules) says in (
      l.invariant.0
          ∙ ap (λ left. by_units left (spelled (map pair_of l.sorted.items)))
          (members_from all l.member-index c.member-item.result (omega arith) c.member-item.is)
          ∙ more.0,
      more.1,
    )

pub returns : goal.returns
returns c =
    all_spelled c.args.members.now.items c.deref-member-items.result.now c.members.member-index c.members.sorted.items
    (omega (arith, c.members-test.false, c.members.auto.member-index-end)) c.members.invariant.0
