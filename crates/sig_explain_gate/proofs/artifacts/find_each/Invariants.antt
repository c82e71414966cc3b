use Rattle.std.proofs.Common.{take}
use Rattle.sig_explain_gate.proofs.FoundArtifacts.{IsListed}
use Rattle.sig_explain_gate.specs.Roots.{AreRead}
use Rattle.sig_gate.specs.NamedPolicies.{AreHeldPolicies}
use Rattle.sig_gate_command.specs.Request.{parts_of}
use Rattle.sig_json.specs.Tree.{document_tree}
use Rattle.sig_manifest.specs.Manifest.{manifest_view}
use Rattle.sig_explain_gate.proofs.artifacts.find_each.Given as goal

-- the results so far
abbrev pub invariant-artifacts : goal.invariant-artifacts
invariant-artifacts l =
    IsListed (parts_of l.request) (take l.artifact-index l.artifacts) l.verdicts (document_tree l.list)
    × AreRead (manifest_view l.request.manifest) l.roots × AreHeldPolicies (manifest_view l.request.manifest) l.policies
