use Rattle.sig_checked_bundle.proofs.PassedLaws.{passed-iff}
use Rattle.sig_checked_bundle.proofs.laws.passed_bundles.Goals as goal

pub returns : goal.returns
returns c = passed-iff
