use Rattle.std.proofs.Common.{◌≡◌, drop}
use Rattle.sig_manifest.specs.Manifest.{are_few_bundles, artifacts_view}
use Rattle.sig_manifest.proofs.manifest.are_few_bundles.Given as goal

-- the bundles that are left fit what is left
abbrev pub invariant-artifacts : goal.invariant-artifacts
invariant-artifacts l =
    are_few_bundles 256 (artifacts_view l.fn.artifacts)
    ≡ are_few_bundles l.left (artifacts_view (drop l.artifact-index l.fn.artifacts))
