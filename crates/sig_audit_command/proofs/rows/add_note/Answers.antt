-- The list has the signatures so far, and in the end all of them, or has no room for the next.
use Rattle.std.proofs.Common.{◌<◌, ◌≤◌, ◌∙◌, ap, get_or, length, subst, arith}
use Rattle.sig_json.proofs.StableKinds.{is_list-with_last}
use Rattle.sig_json.specs.Tree.{document_tree}
use Rattle.sig_reply.specs.RowsText.{AddsRow, row_tree}
use Rattle.sig_audit_command.proofs.HeadRows.{sign-done, sign-more, sign-none, sign-past}
use Rattle.sig_audit_command.specs.Questions.{head_row}
use Rattle.sig_audit_command.proofs.rows.add_note.Goals as goal

pub signatures-init : goal.signatures-init
signatures-init c = (
  λ rows is. sign-none c.args.request.now c.args.checkpoint.now c.args.most rows (document_tree c.args.list.now)
      c.args.size is,
  c.requires.list,
  c.requires.room,
)

pub signatures-preserved : goal.signatures-preserved
signatures-preserved c =
    let same = c.as_slice-signature-items.ensures in
    let below : c.signatures.signature-index < length c.args.checkpoint.now.signatures =
    omega (arith, c.signatures-test.true, ap length same) in
    let is = c.signature-item.is ∙ ap (λ items. get_or items c.signatures.signature-index c.signature-item.result) same in
    let row = head_row c.args.request.now c.args.checkpoint.now c.signature-item.result in
    let added = subst (AddsRow c.args.most (document_tree c.signatures.list) (document_tree c.add_signature.new.list)
    c.signatures.taken row) c.in-Some.is c.in_ok-sum.ensures.added in (
      λ rows listed. sign-more c.args.request.now c.args.checkpoint.now c.args.most rows c.signatures.signature-index
          c.signature-item.result (document_tree c.signatures.list) (document_tree c.add_signature.new.list)
          c.signatures.taken c.in-Some.sum below is
          (c.signatures.invariant.0 rows listed) c.in_ok-sum.ensures.back added,
      rw added.2 (is_list-with_last (row_tree row) (document_tree c.signatures.list) c.signatures.invariant.1),
      added.1,
    )

pub returns-in_default : goal.returns-in_default
returns-in_default c =
    let same = c.as_slice-signature-items.ensures in
    let below : c.signatures.signature-index < length c.args.checkpoint.now.signatures =
    omega (arith, c.signatures-test.true, ap length same) in
    let is = c.signature-item.is ∙ ap (λ items. get_or items c.signatures.signature-index c.signature-item.result) same in
    let row = head_row c.args.request.now c.args.checkpoint.now c.signature-item.result in
    let long = subst (AddsRow c.args.most (document_tree c.signatures.list) (document_tree c.add_signature.new.list)
    c.signatures.taken row) c.in_default.is c.in_ok-sum.ensures.added in
    λ rows listed. sign-past c.args.request.now c.args.checkpoint.now c.args.most rows c.signatures.signature-index
    c.signature-item.result (document_tree c.signatures.list) (document_tree c.add_signature.new.list)
    c.signatures.taken below is (c.signatures.invariant.0 rows listed)
    long

pub returns : goal.returns
returns c = λ rows is.
    sign-done c.args.request.now c.args.checkpoint.now c.args.most rows c.signatures.signature-index
    (document_tree c.signatures.list) c.signatures.taken (omega (arith, c.signatures-test.false, ap length c.as_slice-signature-items.ensures))
    (c.signatures.invariant.0 rows is)
