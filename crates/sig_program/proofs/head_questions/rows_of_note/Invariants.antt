-- The document lists the signatures so far.
use Rattle.sig_json.specs.Tree.{document_tree}
use Rattle.sig_reply.proofs.RowsTexts.{IsListed}
use Rattle.sig_program.specs.HeadQuestions.{head_rows}
use Rattle.sig_program.proofs.head_questions.rows_of_note.Given as goal

abbrev pub invariant-signatures : goal.invariant-signatures
invariant-signatures l =
    IsListed l.most (head_rows l.head l.checkpoint) l.signature-index (document_tree l.list) l.size
