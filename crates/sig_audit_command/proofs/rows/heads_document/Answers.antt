-- The list has the signatures of the heads so far, and in the end of all, or has no room for the next.
use Rattle.std.proofs.Common.{◌<◌, ◌≤◌, ◌++◌, length, take, subst, arith}
use Rattle.sig_json.specs.Tree.{document_tree, tree}
use Rattle.sig_reply.proofs.RowsTexts.{list_of-none, no-brackets}
use Rattle.sig_audit_command.proofs.HeadRows.{head-more, head-past, heads-whole}
use Rattle.sig_audit_command.specs.Questions.{HasAdded, audit_rows, note_rows}
use Rattle.sig_audit_command.proofs.rows.heads_document.Goals as goal

pub returns-then-most-lt2 : goal.returns-then-most-lt2
returns-then-most-lt2 c = no-brackets c.args.most (audit_rows c.args.request.now c.args.heads.now) (omega arith)

pub heads-init : goal.heads-init
heads-init c = list_of-none c.args.most (document_tree c.list-list.result) c.list-list.ensures (omega arith)

pub heads-preserved : goal.heads-preserved
heads-preserved c =
    let below : c.heads.head-index < length c.args.heads.now = omega (arith, c.heads-test.true) in
    let before = audit_rows c.args.request.now (take c.heads.head-index c.args.heads.now) in
    head-more c.args.request.now c.args.most c.args.heads.now c.heads.head-index c.head-item.result
    (document_tree c.add_head.new.list) c.in-Some.sum below c.head-item.is
    (subst (HasAdded c.args.most (before ++ note_rows c.args.request.now c.head-item.result.checkpoint)
    (document_tree c.add_head.new.list)) c.in-Some.is (c.in_ok-sum.ensures before c.heads.invariant))

pub returns-in_default : goal.returns-in_default
returns-in_default c =
    let below : c.heads.head-index < length c.args.heads.now = omega (arith, c.heads-test.true) in
    let before = audit_rows c.args.request.now (take c.heads.head-index c.args.heads.now) in
    head-past c.args.request.now c.args.most c.args.heads.now c.heads.head-index c.head-item.result
    (document_tree c.add_head.new.list) below c.head-item.is
    (subst (HasAdded c.args.most (before ++ note_rows c.args.request.now c.head-item.result.checkpoint)
    (document_tree c.add_head.new.list)) c.in_default.is (c.in_ok-sum.ensures before c.heads.invariant))

pub returns : goal.returns
returns c =
    let all : length c.args.heads.now ≤ c.heads.head-index = omega (arith, c.heads-test.false) in
    heads-whole c.args.request.now c.args.most c.args.heads.now c.heads.head-index (document_tree c.heads.list)
    (tree c.view.result) c.heads.size c.in_ok-text.field-0 all c.heads.invariant c.view.ensures
    c.in_ok-text.ensures.text c.in_ok-text.ensures.reads_back
