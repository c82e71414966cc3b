use Rattle.std.proofs.Common.{◌≡◌, drop}
use Rattle.sig_manifest.specs.Manifest.{artifacts_view, manifest_view}
use Rattle.sig_manifest.specs.Unknown.{unknown_from, unknown_in}
use Rattle.sig_manifest.proofs.unknown.unknown_in.Given as goal

-- all names so far are there
abbrev pub invariant-artifacts : goal.invariant-artifacts
invariant-artifacts l =
    unknown_in (manifest_view l.manifest)
    ≡ unknown_from (manifest_view l.manifest) l.place (artifacts_view (drop l.place l.artifacts))
