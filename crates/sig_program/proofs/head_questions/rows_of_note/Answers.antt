-- The document lists the signatures so far, and in the end all of them, or has no room for the next.
use Rattle.std.proofs.Common.{◌≤◌, length, refl, subst, arith}
use Rattle.sig_json.specs.Tree.{document_tree, tree}
use Rattle.sig_program.proofs.NoteRows.{row-at, rows-length}
use Rattle.sig_reply.proofs.RowsTexts.{listed-more, listed-none, listed-past, listed-whole, no-brackets}
use Rattle.sig_program.specs.Head.{head_row}
use Rattle.sig_program.specs.HeadQuestions.{head_rows}
use Rattle.sig_reply.specs.RowsText.{AddsRow}
use Rattle.sig_program.proofs.head_questions.rows_of_note.Goals as goal

pub returns-then-most-lt2 : goal.returns-then-most-lt2
returns-then-most-lt2 c = no-brackets c.args.most (head_rows c.args.head.now c.args.checkpoint.now) (omega arith)

pub signatures-init : goal.signatures-init
signatures-init c =
    listed-none c.args.most (head_rows c.args.head.now c.args.checkpoint.now) (document_tree c.list-list.result)
    c.list-list.ensures (omega arith)

pub signatures-preserved : goal.signatures-preserved
signatures-preserved c =
    let rows = head_rows c.args.head.now c.args.checkpoint.now in
    let row = head_row c.args.head.now c.args.checkpoint.now c.signature-item.result in
    let items = c.signatures-signature-items.result.now in
    let at = row-at c.args.head.now c.args.checkpoint.now items c.signatures.signature-index c.signature-item.result
    row c.signatures-signature-items.ensures (omega (arith, c.signatures-test.true)) c.signature-item.is refl in
    listed-more c.args.most rows c.signatures.signature-index row (document_tree c.signatures.list)
    (document_tree c.add_signature.new.list) c.signatures.size c.in-Some.sum at.0 at.1 c.signatures.invariant
    c.in_ok-sum.ensures.back
    (subst (AddsRow c.args.most (document_tree c.signatures.list) (document_tree c.add_signature.new.list) c.signatures.size row)
    c.in-Some.is c.in_ok-sum.ensures.added)

pub returns-in_default : goal.returns-in_default
returns-in_default c =
    let rows = head_rows c.args.head.now c.args.checkpoint.now in
    let row = head_row c.args.head.now c.args.checkpoint.now c.signature-item.result in
    let items = c.signatures-signature-items.result.now in
    let at = row-at c.args.head.now c.args.checkpoint.now items c.signatures.signature-index c.signature-item.result
    row c.signatures-signature-items.ensures (omega (arith, c.signatures-test.true)) c.signature-item.is refl in
    listed-past c.args.most rows c.signatures.signature-index row (document_tree c.signatures.list)
    (document_tree c.add_signature.new.list) c.signatures.size at.0 at.1 c.signatures.invariant
    (subst (AddsRow c.args.most (document_tree c.signatures.list) (document_tree c.add_signature.new.list) c.signatures.size row)
    c.in_default.is c.in_ok-sum.ensures.added)

pub returns : goal.returns
returns c =
    let rows = head_rows c.args.head.now c.args.checkpoint.now in
    let items = c.signatures-signature-items.result.now in
    let long = rows-length c.args.head.now c.args.checkpoint.now items c.signatures-signature-items.ensures in
    let all : length rows ≤ c.signatures.signature-index = omega (arith, c.signatures-test.false, long) in
    listed-whole c.args.most rows c.signatures.signature-index (document_tree c.signatures.list) (tree c.view.result)
    c.signatures.size c.in_ok-text.field-0 all c.signatures.invariant c.view.ensures c.in_ok-text.ensures.text
    c.in_ok-text.ensures.reads_back
