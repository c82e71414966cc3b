use Rattle.sig_manifest_fault.proofs.ManifestFaults.{none_if_manifest}
use Rattle.sig_manifest_fault.proofs.manifest.manifest_fault.Goals as goal

pub returns-clause-manifest : goal.returns-clause-manifest
returns-clause-manifest c = none_if_manifest c.args.text.now c.find.result c.find.ensures
