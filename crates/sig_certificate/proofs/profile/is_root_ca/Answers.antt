use Rattle.sig_certificate.specs.Faults.{IsRoot, IsRootFault}
use Rattle.sig_certificate.proofs.Clauses.{passes, fails}
use Rattle.sig_certificate.proofs.ProfileFaults.{root_is, root_again, root_fault_is, root_fault_again}
use Rattle.sig_certificate.proofs.profile.is_root_ca.Goals as goal

pub returns-clause-root : goal.returns-clause-root
returns-clause-root c =
    passes c.judge_root.result _ (IsRoot c.args.certificate.now) c.judge_root.ensures (root_is c.args.certificate.now) (root_again c.args.certificate.now)

pub returns-clause-faults : goal.returns-clause-faults
returns-clause-faults c =
    fails c.judge_root.result _ (IsRootFault c.args.certificate.now) c.judge_root.ensures (root_fault_is c.args.certificate.now) (root_fault_again c.args.certificate.now)
