use Rattle.std.proofs.Common.{take}
use Rattle.sig_explain_gate.proofs.FoundArtifacts.{IsWalked}
use Rattle.sig_gate_command.specs.Request.{parts_of}
use Rattle.sig_json.specs.Tree.{document_tree}
use Rattle.sig_manifest.specs.Artifact.{artifact_view}
use Rattle.sig_explain_gate.proofs.artifact.find_each.Given as goal

-- the results so far
abbrev pub invariant-bundles : goal.invariant-bundles
invariant-bundles l =
    IsWalked (parts_of l.request) (artifact_view l.artifact) (take l.bundle-index l.bundles) l.verdicts
    (document_tree l.list)
