use Rattle.sig_certificate.specs.Faults.{IsAuthority, IsAuthorityFault}
use Rattle.sig_certificate.proofs.Clauses.{passes, fails}
use Rattle.sig_certificate.proofs.ProfileFaults.{authority_is, authority_again, authority_fault_is, authority_fault_again}
use Rattle.sig_certificate.proofs.profile.is_ca.Goals as goal

pub returns-clause-authority : goal.returns-clause-authority
returns-clause-authority c =
    passes c.judge_ca.result _ (IsAuthority c.args.certificate.now) c.judge_ca.ensures (authority_is c.args.certificate.now) (authority_again c.args.certificate.now)

pub returns-clause-faults : goal.returns-clause-faults
returns-clause-faults c =
    fails c.judge_ca.result _ (IsAuthorityFault c.args.certificate.now) c.judge_ca.ensures (authority_fault_is c.args.certificate.now) (authority_fault_again c.args.certificate.now)
