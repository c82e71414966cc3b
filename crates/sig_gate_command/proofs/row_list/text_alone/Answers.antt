-- The list has the signature, and nothing else.
use Rattle.std.proofs.Common.{subst}
use Rattle.sig_gate_command.proofs.Listings.{alone-made}
use Rattle.sig_json.specs.Tree.{document_tree, tree}
use Rattle.sig_reply.specs.RowsText.{AddsRow}
use Rattle.sig_gate_command.proofs.row_list.text_alone.Goals as goal

pub returns : goal.returns
returns c =
    alone-made c.args.most c.args.row.now (document_tree c.list-list.result) (document_tree c.add_row.new.list)
    (tree c.view.result) c.in-Some.field-0 c.in_ok-text.field-0 c.list-list.ensures c.requires.least
    c.in_ok-add_row.ensures.back
    (subst (AddsRow c.args.most (document_tree c.list-list.result) (document_tree c.add_row.new.list) 0 c.args.row.now)
    c.in-Some.is c.in_ok-add_row.ensures.added) c.view.ensures c.in_ok-text.ensures.text c.in_ok-text.ensures.reads_back
