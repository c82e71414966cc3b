use Rattle.std.proofs.Common.{◌≡◌, ◌++◌, drop, string_bytes}
use Rattle.sig_gate.specs.Report.{bundle_lines}
use Rattle.sig_gate.proofs.report_text.push_bundles.Given as goal

-- the lines so far, and those that are left
abbrev pub invariant-bundles : goal.invariant-bundles
invariant-bundles l =
    string_bytes l.fn.text ++ bundle_lines 0 l.bundles
    ≡ string_bytes l.text ++ bundle_lines l.place (drop l.place l.bundles)
