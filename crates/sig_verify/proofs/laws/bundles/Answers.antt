use Rattle.sig_verify.proofs.BundleVerdicts.{bundles_are_judged}
use Rattle.sig_verify.proofs.laws.bundles.Goals as goal

pub returns : goal.returns
returns c = bundles_are_judged c.certificates.ensures c.passed_bundles.ensures c.causes_of_refusals.ensures
