-- One artifact more is written.
use Rattle.std.proofs.Common.{◌≡◌, ◌++◌, ◌∙◌, ℕ, List, ap, string_bytes}
use Rattle.sig_gate.proofs.Lines.{artifacts-more}
use Rattle.sig_gate.specs.Report.{all_lines, artifact_lines}
use Rattle.sig_manifest.specs.Manifest.{artifacts_view}
use Rattle.sig_gate.proofs.report_text.push_artifacts.Goals as goal

pub artifacts-preserved : goal.artifacts-preserved
artifacts-preserved c =
    let before : List ℕ = string_bytes c.artifacts.text in
    let grown : string_bytes c.push_artifact.new.text
    ≡ before ++ artifact_lines c.index-artifacts-place.result.name c.in-Some.verdict.now =
    c.in_ok-push_artifact.ensures
    ∙ ap (λ (name : List ℕ). before ++ artifact_lines name c.in-Some.verdict.now) c.as_str.ensures in
    artifacts-more
    (string_bytes c.args.text.now ++ all_lines (artifacts_view c.args.manifest.now.artifacts) c.args.verdicts.now)
    c.as_slice-artifacts.result.now c.args.verdicts.now c.artifacts.place c.index-artifacts-place.result
    c.in-Some.verdict.now before (string_bytes c.push_artifact.new.text) c.artifacts-test.true
    c.index-artifacts-place.is c.in-Some.ensures grown c.artifacts.invariant
