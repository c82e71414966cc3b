-- The document lists the signatures so far.
use Rattle.sig_json.specs.Tree.{document_tree}
use Rattle.sig_reply.proofs.RowsTexts.{IsListed}
use Rattle.sig_reply.proofs.rows_text.rows_document.Given as goal

abbrev pub invariant-rows : goal.invariant-rows
invariant-rows l = IsListed l.most l.rows l.row-index (document_tree l.list) l.size
