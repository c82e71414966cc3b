-- No trusted root was read at first, no policy was held, and there are as many verdicts as artifacts.
use Rattle.std.proofs.Common.{◌∙◌}
use Rattle.std.proofs.lemmas.List.{length-map}
use Rattle.std.proofs.lemmas.Result.{IfOk-weaker}
use Rattle.sig_explain_gate.proofs.ReadNames.{none-read}
use Rattle.sig_explain_gate.specs.Artifact.{AreArtifactsFound}
use Rattle.sig_gate.proofs.HeldNames.{no_policies}
use Rattle.sig_gate.proofs.Zips.{zip-length}
use Rattle.sig_gate.specs.Gate.{IsVerdict}
use Rattle.sig_gate_command.specs.Reply.{checker_with}
use Rattle.sig_gate_command.specs.Request.{parts_of}
use Rattle.sig_manifest.specs.Artifact.{artifact_view}
use Rattle.sig_manifest.specs.Manifest.{artifacts_view, manifest_view}
use Rattle.sig_explain_gate.proofs.artifacts.find_artifacts.Goals as goal

pub find_each-found-requires-clause-read : goal.find_each-found-requires-clause-read
find_each-found-requires-clause-read c =
    none-read (manifest_view c.args.request.now.manifest) c.new-roots.result c.new-roots.ensures

pub find_each-found-requires-clause-policies : goal.find_each-found-requires-clause-policies
find_each-found-requires-clause-policies c =
    no_policies (manifest_view c.args.request.now.manifest) c.new-policies.result c.new-policies.ensures

pub returns-clause-count : goal.returns-clause-count
returns-clause-count c =
    let parts = parts_of c.args.request.now in
    let artifacts = c.args.request.now.manifest.artifacts in
    IfOk-weaker c.find_each-found.result (AreArtifactsFound parts) _
    (λ found are.
    zip-length (IsVerdict (checker_with parts.1) parts.0) (artifacts_view artifacts) found.verdicts are.verdicts
    ∙ length-map artifacts artifact_view) c.find_each-found.ensures
