use Rattle.std.proofs.Common.{◌≡◌, ◌≤ℤ◌}
use Rattle.std.proofs.Math.Facts.{to_z-of_z}
use Rattle.sig_certificate.specs.Profile.{error_of}
use Rattle.sig_certificate.specs.Trust.{validity_refusal}
use Rattle.sig_certificate.specs.Faults.{IsValidityFault}
use Rattle.sig_certificate.proofs.Clauses.{passes, fails, at_time}
use Rattle.sig_certificate.proofs.TrustFaults.{validity_none_is, validity_none_again, validity_fault_is, validity_fault_again}
use Rattle.sig_certificate.proofs.trust.verify_validity.Goals as goal

-- the result at the time as it is given
is : (c : goal.After-check_validity) → error_of c.check_validity.result ≡ validity_refusal c.args.certificate.now c.args.now
is c = at_time (error_of c.check_validity.result) (validity_refusal c.args.certificate.now) _ c.args.now (to_z-of_z c.ranges.now) c.check_validity.ensures

pub returns-clause-passes : goal.returns-clause-passes
returns-clause-passes c =
    passes c.check_validity.result _ (c.args.certificate.now.not_before ≤ℤ c.args.now) (is c) (validity_none_is c.args.certificate.now c.args.now) (validity_none_again c.args.certificate.now c.args.now)

pub returns-clause-faults : goal.returns-clause-faults
returns-clause-faults c =
    fails c.check_validity.result _ (IsValidityFault c.args.certificate.now c.args.now) (is c) (validity_fault_is c.args.certificate.now c.args.now) (validity_fault_again c.args.certificate.now c.args.now)
