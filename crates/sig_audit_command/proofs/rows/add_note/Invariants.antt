-- The list has the signatures so far after those that it had; it is a list, and has room.
use Rattle.std.proofs.Common.{◌<◌, ◌++◌, List, IsSome}
use Rattle.sig_base.specs.declared.checker.AcceptedRow.{AcceptedRow}
use Rattle.sig_json.specs.Find.{as_array}
use Rattle.sig_json.specs.Tree.{document_tree}
use Rattle.sig_reply.specs.RowsText.{IsListOf}
use Rattle.sig_audit_command.proofs.HeadRows.{rows_so_far}
use Rattle.sig_audit_command.proofs.rows.add_note.Given as goal

abbrev pub invariant-signatures : goal.invariant-signatures
invariant-signatures l =
    ((rows : List AcceptedRow) → IsListOf l.most rows (document_tree l.fn.list) l.size
    → IsListOf l.most (rows ++ rows_so_far l.request l.checkpoint l.signature-index) (document_tree l.list) l.taken)
    × IsSome (as_array (document_tree l.list)) × (l.taken < l.most)
