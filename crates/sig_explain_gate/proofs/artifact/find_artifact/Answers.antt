-- The verdict on an artifact and its object, by the results for its bundles.
use Rattle.sig_explain_gate.proofs.FoundArtifacts.{artifact-found}
use Rattle.sig_gate_command.specs.Request.{parts_of}
use Rattle.sig_manifest.specs.Artifact.{artifact_view}
use Rattle.sig_explain_gate.proofs.artifact.find_artifact.Goals as goal

pub returns-clause-found : goal.returns-clause-found
returns-clause-found c =
    artifact-found (parts_of c.args.request.now) (artifact_view c.args.artifact.now) c.in_ok-found.found
    c.as_slice.result.now c.in_ok-admitted.admitted c.as_str.result.now c.in_ok-document.document
    c.in_ok-found.ensures.found c.as_slice.ensures c.in_ok-admitted.ensures c.as_str.ensures c.in_ok-document.ensures
