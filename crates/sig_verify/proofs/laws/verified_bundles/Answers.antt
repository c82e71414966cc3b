use Rattle.sig_verify.proofs.VerifiedBundles.{verdict_told}
use Rattle.sig_verify.proofs.laws.verified_bundles.Goals as goal

pub returns : goal.returns
returns c k policy trusted d offline b read result is =
    verdict_told c.certificates.ensures c.passed_bundles.ensures c.bundles.ensures k policy trusted d offline b read
    result is
