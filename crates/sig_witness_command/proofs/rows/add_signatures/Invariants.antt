-- The list has the signatures so far after those that it had; it has room, and the numbers of the notes are as they
-- were.
use Rattle.std.proofs.Common.{◌≡◌, ℕ, List, Some}
use Rattle.std.specs.Option.{option_map}
use Rattle.sig_base.specs.ByText.{text_lookup}
use Rattle.sig_base.specs.declared.checker.AcceptedRow.{AcceptedRow}
use Rattle.sig_witness.specs.KeptLogs.{log_key}
use Rattle.sig_witness_command.proofs.Listings.{rows_so_far}
use Rattle.sig_witness_command.specs.Questions.{each_once_after}
use Rattle.sig_witness_command.specs.RowList.{HasRoom, IsListSoFar}
use Rattle.sig_witness_command.specs.Start.{HaveLines, Logs}
use Rattle.sig_witness_command.proofs.rows.add_signatures.Given as goal

abbrev pub invariant-signatures : goal.invariant-signatures
invariant-signatures l =
    ((logs : Logs) (bound : ℕ) (before : List AcceptedRow) → HaveLines logs
    → option_map log_key (text_lookup l.checkpoint.note.origin logs) ≡ Some l.key
    → IsListSoFar logs bound before l.fn.rows
    → IsListSoFar logs bound (each_once_after before (rows_so_far l.key l.checkpoint l.signature-index)) l.rows)
    × HasRoom l.rows × (l.rows.notes ≡ l.fn.rows.notes) × (l.rows.most ≡ l.fn.rows.most)
