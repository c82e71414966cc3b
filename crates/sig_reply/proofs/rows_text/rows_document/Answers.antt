-- The document lists the signatures so far, and in the end all of them, or has no room for the next.
use Rattle.std.proofs.Common.{◌<◌, ◌≤◌, length, subst, arith}
use Rattle.sig_json.specs.Tree.{document_tree, tree}
use Rattle.sig_reply.proofs.RowsTexts.{listed-more, listed-none, listed-past, listed-whole, no-brackets}
use Rattle.sig_reply.specs.RowsText.{AddsRow}
use Rattle.sig_reply.proofs.rows_text.rows_document.Goals as goal

pub returns-then-most-lt2 : goal.returns-then-most-lt2
returns-then-most-lt2 c = no-brackets c.args.most c.args.rows.now (omega arith)

pub rows-init : goal.rows-init
rows-init c =
    listed-none c.args.most c.args.rows.now (document_tree c.list-list.result) c.list-list.ensures (omega arith)

pub rows-preserved : goal.rows-preserved
rows-preserved c =
    let below : c.rows.row-index < length c.args.rows.now = omega (arith, c.rows-test.true) in
    listed-more c.args.most c.args.rows.now c.rows.row-index c.row-item.result (document_tree c.rows.list)
    (document_tree c.add_row.new.list) c.rows.size c.in-Some.sum below c.row-item.is c.rows.invariant
    c.in_ok-sum.ensures.back
    (subst (AddsRow c.args.most (document_tree c.rows.list) (document_tree c.add_row.new.list) c.rows.size c.row-item.result)
    c.in-Some.is c.in_ok-sum.ensures.added)

pub returns-in_default : goal.returns-in_default
returns-in_default c =
    let below : c.rows.row-index < length c.args.rows.now = omega (arith, c.rows-test.true) in
    listed-past c.args.most c.args.rows.now c.rows.row-index c.row-item.result (document_tree c.rows.list)
    (document_tree c.add_row.new.list) c.rows.size below c.row-item.is c.rows.invariant
    (subst (AddsRow c.args.most (document_tree c.rows.list) (document_tree c.add_row.new.list) c.rows.size c.row-item.result)
    c.in_default.is c.in_ok-sum.ensures.added)

pub returns : goal.returns
returns c =
    let all : length c.args.rows.now ≤ c.rows.row-index = omega (arith, c.rows-test.false) in
    listed-whole c.args.most c.args.rows.now c.rows.row-index (document_tree c.rows.list) (tree c.view.result) c.rows.size
    c.in_ok-text.field-0 all c.rows.invariant c.view.ensures c.in_ok-text.ensures.text
    c.in_ok-text.ensures.reads_back
