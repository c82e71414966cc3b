-- The list has what the bundles so far ask for after what it had.
use Rattle.std.proofs.Common.{◌≡◌, ℕ, ℤ, List, take, true}
use Rattle.sig_base.specs.declared.checker.AcceptedRow.{AcceptedRow}
use Rattle.sig_gate_command.specs.AskedRoots.{IsRootOf, inputs_at}
use Rattle.sig_gate_command.specs.RowList.{HasAddedOf, IsListSoFar}
use Rattle.sig_gate_command.proofs.rows.add_bundles.Given as goal

abbrev pub invariant-bundles : goal.invariant-bundles
invariant-bundles l =
    ((text : List ℕ) (now : ℤ) → IsRootOf text now l.root → (before : List AcceptedRow) → IsListSoFar before l.fn.rows
    → HasAddedOf (inputs_at text now l.artifact.digest (take l.bundle-index l.texts)) before l.rows true)
    × (l.rows.most ≡ l.fn.rows.most)
