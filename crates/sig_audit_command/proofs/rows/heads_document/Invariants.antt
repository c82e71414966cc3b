-- The list has the signatures of the heads so far.
use Rattle.std.proofs.Common.{take}
use Rattle.sig_json.specs.Tree.{document_tree}
use Rattle.sig_reply.specs.RowsText.{IsListOf}
use Rattle.sig_audit_command.specs.Questions.{audit_rows}
use Rattle.sig_audit_command.proofs.rows.heads_document.Given as goal

abbrev pub invariant-heads : goal.invariant-heads
invariant-heads l = IsListOf l.most (audit_rows l.request (take l.head-index l.heads)) (document_tree l.list) l.size
