-- The verdict, in words.
use Rattle.sig_policy.proofs.SingleLaws.{single_accepted, single_missing, single_differs}
use Rattle.sig_policy.proofs.single.verify_single.Goals as goal

pub returns-clause-accepted : goal.returns-clause-accepted
returns-clause-accepted g c =
    single_accepted g.T.SingleX509ExtPolicy.title (g.T.SingleX509ExtPolicy.asked c.args.policy.now)
    g.T.SingleX509ExtPolicy.identifier
    c.args.cert.now c.check.result c.check.ensures

pub returns-clause-extension_not_found : goal.returns-clause-extension_not_found
returns-clause-extension_not_found g c =
    single_missing g.T.SingleX509ExtPolicy.title (g.T.SingleX509ExtPolicy.asked c.args.policy.now)
    g.T.SingleX509ExtPolicy.identifier
    c.args.cert.now c.check.result c.check.ensures

pub returns-clause-extension_check_failed : goal.returns-clause-extension_check_failed
returns-clause-extension_check_failed g c =
    single_differs g.T.SingleX509ExtPolicy.title (g.T.SingleX509ExtPolicy.asked c.args.policy.now)
    g.T.SingleX509ExtPolicy.identifier
    c.args.cert.now c.check.result c.check.ensures
