-- The table of manifests is theirs.
use Rattle.sig_manifest_fault.proofs.AscendingNames.{named-ascends}
use Rattle.sig_manifest_fault.proofs.ManifestFaults.{manifest-none, none-manifest}
use Rattle.sig_manifest_fault.proofs.ManifestTables.{manifest_is}
use Rattle.sig_manifest_fault.proofs.laws.manifests.Goals as goal

pub returns : goal.returns
returns c =
    record {
      table = λ d named. manifest_is d (named-ascends d named);
      text = λ text. (none-manifest text, manifest-none text);
    }
