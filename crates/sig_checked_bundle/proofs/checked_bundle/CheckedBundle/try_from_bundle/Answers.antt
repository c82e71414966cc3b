use Rattle.sig_checked_bundle.proofs.BundleClauses.{bundle-passed, bundle-refused}
use Rattle.sig_checked_bundle.proofs.checked_bundle.CheckedBundle.try_from_bundle.Goals as goal

pub returns-clause-passed : goal.returns-clause-passed
returns-clause-passed c = bundle-passed c.args.input.now c.check_bundle.result c.check_bundle.ensures

pub returns-clause-refused : goal.returns-clause-refused
returns-clause-refused c = bundle-refused c.args.input.now c.check_bundle.result c.check_bundle.ensures
