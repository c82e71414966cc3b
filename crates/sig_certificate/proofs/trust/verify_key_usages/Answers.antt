use Rattle.sig_certificate.specs.Faults.{MaySign, MaySignCode, IsUsagesFault}
use Rattle.sig_certificate.proofs.Clauses.{passes, fails}
use Rattle.sig_certificate.proofs.TrustFaults.{usages_none_is, usages_none_again, usages_fault_is, usages_fault_again}
use Rattle.sig_certificate.proofs.trust.verify_key_usages.Goals as goal

pub returns-clause-passes : goal.returns-clause-passes
returns-clause-passes c =
    passes c.check_usages.result _ (MaySign c.args.certificate.now × MaySignCode c.args.certificate.now) c.check_usages.ensures (usages_none_is c.args.certificate.now) (λ both. usages_none_again c.args.certificate.now both.0 both.1)

pub returns-clause-faults : goal.returns-clause-faults
returns-clause-faults c =
    fails c.check_usages.result _ (IsUsagesFault c.args.certificate.now) c.check_usages.ensures (usages_fault_is c.args.certificate.now) (usages_fault_again c.args.certificate.now)
