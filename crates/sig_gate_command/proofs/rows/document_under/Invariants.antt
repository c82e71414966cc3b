-- The list has what the bundles of the artifacts so far ask for, and their trusted roots are held.
use Rattle.std.proofs.Common.{◌≡◌, [], true}
use Rattle.sig_gate_command.proofs.Walks.{inputs_before}
use Rattle.sig_gate_command.specs.AskedRoots.{AreAsked}
use Rattle.sig_gate_command.specs.RowList.{HasAddedOf}
use Rattle.sig_manifest.specs.Manifest.{manifest_view}
use Rattle.sig_gate_command.proofs.rows.document_under.Given as goal

abbrev pub invariant-artifacts : goal.invariant-artifacts
invariant-artifacts l =
    HasAddedOf (inputs_before (manifest_view l.manifest) l.manifest.artifacts l.artifact-index) [] l.rows true
    × (l.rows.most ≡ l.most) × AreAsked (manifest_view l.manifest) l.held
