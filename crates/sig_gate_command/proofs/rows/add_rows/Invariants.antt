-- The list has the rows so far after what it had, and their bytes are spent.
use Rattle.std.proofs.Common.{◌≡◌, ◌+◌, List, ◌++◌, take}
use Rattle.sig_base.specs.declared.checker.AcceptedRow.{AcceptedRow}
use Rattle.sig_gate_command.specs.RowList.{HasRoom, IsListSoFar}
use Rattle.sig_questions.specs.Rows.{bytes_of_rows}
use Rattle.sig_gate_command.proofs.rows.add_rows.Given as goal

abbrev pub invariant-asked : goal.invariant-asked
invariant-asked l =
    ((before : List AcceptedRow) → IsListSoFar before l.fn.rows
    → IsListSoFar (before ++ take l.row-index l.asked) l.rows)
    × HasRoom l.rows × (l.rows.most ≡ l.fn.rows.most)
    × (l.rows.left + bytes_of_rows (take l.row-index l.asked) ≡ l.fn.rows.left)
