-- No trusted root is held at first, and two brackets have no room in less than two bytes.
use Rattle.std.proofs.Common.{arith}
use Rattle.sig_gate_command.proofs.AskedNames.{none-asked}
use Rattle.sig_gate_command.proofs.Walks.{document-none}
use Rattle.sig_manifest.specs.Manifest.{manifest_view}
use Rattle.sig_gate_command.proofs.rows.questions_document.Goals as goal

pub returns-then-most-lt2 : goal.returns-then-most-lt2
returns-then-most-lt2 c = document-none c.args.manifest.now c.args.most (omega (arith, c.if-most-lt2.true))

pub document_under-document-requires-clause-held : goal.document_under-document-requires-clause-held
document_under-document-requires-clause-held c =
    none-asked (manifest_view c.args.manifest.now) c.new-held.result c.new-held.ensures
