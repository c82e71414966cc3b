use Rattle.sig_policy.specs.Said.{said_values}
use Rattle.sig_policy.proofs.RequestedPolicyLaws.{all_said}
use Rattle.sig_policy.proofs.request.RequestPolicyVerificationPolicy.verify.Goals as goal

pub returns-in-All : goal.returns-in-All
returns-in-All c =
    all_said c.args.self.now c.in-All.policies c.as_slice.result.now (said_values c.in_ok-said.said) c.args.cert.now
    c.verify_all.result c.in-All.is c.as_slice.ensures c.in_ok-said.ensures c.verify_all.ensures
