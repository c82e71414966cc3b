use Rattle.std.proofs.Common.{inr, ap, ◌∙◌, arith, rules}
use Rattle.sig_base.specs.ByText.{text_put}
use Rattle.sig_json.proofs.Lists.{next_entry}
use Rattle.sig_json.proofs.TextMaps.{start_of, step_of, refused_of}
use Rattle.sig_json.specs.OrMember.{or_member}
use Rattle.sig_json.proofs.kind.texts_of_members.Goals as goal

pub members-init : goal.members-init
members-init c = start_of _ _ _ c.requires c.deref-member-items.ensures.value c.new-texts.ensures

pub returns-in_default : goal.returns-in_default
returns-in_default c =
    let l = c.members in
    let next =
    next_entry c.deref-member-items.result.now l.member-index c.member-item.result (omega arith)
    c.member-item.is in
    inr (ap or_member (refused_of _ _ _ _ _ _ l.invariant next (search rules)))

pub members-preserved : goal.members-preserved
members-preserved c =
    let l = c.members in
    let next =
    next_entry c.deref-member-items.result.now l.member-index c.member-item.result (omega arith)
    c.member-item.is in
    step_of _ _ _ _ _ _ _ _ l.invariant next c.in-Some.ensures
    (c.in_ok-insert.ensures.ok ∙ ap (λ name. text_put name c.in-Some.text.now l.texts)
    c.as_str-in-members.ensures.value)
