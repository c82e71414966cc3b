-- No trusted root is held at first, and there are as many verdicts as artifacts.
use Rattle.std.proofs.Common.{◌∙◌}
use Rattle.std.proofs.lemmas.List.{length-map}
use Rattle.std.proofs.lemmas.Result.{IfOk-weaker}
use Rattle.sig_gate.proofs.Zips.{zip-length}
use Rattle.sig_gate.specs.Gate.{IsGate, IsVerdict}
use Rattle.sig_manifest.specs.Artifact.{artifact_view}
use Rattle.sig_manifest.specs.Manifest.{artifacts_view, manifest_view}
use Rattle.sig_verify.specs.Verdict.{checker_of}
use Rattle.sig_gate.proofs.admission.gate.Goals as goal

pub returns-clause-count : goal.returns-clause-count
returns-clause-count g c =
    let k = checker_of g.C.SignatureChecker c.args.checker.now in
    let gate = manifest_view c.args.manifest.now in
    IfOk-weaker c.judge_each-verdicts.result (IsGate k gate) _
    (λ verdicts are.
    zip-length (IsVerdict k gate) (artifacts_view c.args.manifest.now.artifacts) verdicts are
    ∙ length-map c.args.manifest.now.artifacts artifact_view) c.judge_each-verdicts.ensures
