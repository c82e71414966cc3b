use Rattle.sig_verify.proofs.CheckedBundles.{trusted_told}
use Rattle.sig_verify.proofs.laws.checked_bundles.Goals as goal

pub returns : goal.returns
returns c k policy trusted d offline checked read result is =
    trusted_told k policy trusted d offline checked read result is
