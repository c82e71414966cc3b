use Rattle.sig_certificate.specs.Faults.{IsNamed, IsNamesFault}
use Rattle.sig_certificate.proofs.Clauses.{passes, fails}
use Rattle.sig_certificate.proofs.TrustFaults.{names_none_is, names_none_again, names_fault_is, names_fault_again}
use Rattle.sig_certificate.proofs.trust.verify_has_san.Goals as goal

pub returns-clause-passes : goal.returns-clause-passes
returns-clause-passes c =
    passes c.check_names.result _ (IsNamed c.args.certificate.now) c.check_names.ensures (names_none_is c.args.certificate.now) (names_none_again c.args.certificate.now)

pub returns-clause-faults : goal.returns-clause-faults
returns-clause-faults c =
    fails c.check_names.result _ (IsNamesFault c.args.certificate.now) c.check_names.ensures (names_fault_is c.args.certificate.now) (names_fault_again c.args.certificate.now)
