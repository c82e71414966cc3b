use Rattle.std.proofs.Common.{◌≡◌, ◌++◌, drop, string_bytes}
use Rattle.sig_gate.specs.Report.{all_lines}
use Rattle.sig_manifest.specs.Manifest.{artifacts_view}
use Rattle.sig_gate.proofs.report_text.push_artifacts.Given as goal

-- the lines so far, and those that are left
abbrev pub invariant-artifacts : goal.invariant-artifacts
invariant-artifacts l =
    string_bytes l.fn.text ++ all_lines (artifacts_view l.manifest.artifacts) l.verdicts
    ≡ string_bytes l.text ++ all_lines (artifacts_view (drop l.place l.artifacts)) (drop l.place l.verdicts)
