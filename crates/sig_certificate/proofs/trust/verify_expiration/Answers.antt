use Rattle.std.proofs.Common.{◌≡◌}
use Rattle.std.proofs.Math.Facts.{to_z-of_z}
use Rattle.sig_certificate.specs.Profile.{error_of}
use Rattle.sig_certificate.specs.Trust.{expiration_refusal}
use Rattle.sig_certificate.specs.Faults.{IsWithinValidity, IsExpirationFault}
use Rattle.sig_certificate.proofs.Clauses.{passes, fails, at_time}
use Rattle.sig_certificate.proofs.TrustFaults.{expiration_none_is, expiration_none_again, expiration_fault_is, expiration_fault_again}
use Rattle.sig_certificate.proofs.trust.verify_expiration.Goals as goal

-- the result at the time as it is given
is : (c : goal.After-check_expiration) → error_of c.check_expiration.result ≡ expiration_refusal c.args.certificate.now c.args.integrated_time
is c = at_time (error_of c.check_expiration.result) (expiration_refusal c.args.certificate.now) _ c.args.integrated_time (to_z-of_z c.ranges.integrated_time) c.check_expiration.ensures

pub returns-clause-passes : goal.returns-clause-passes
returns-clause-passes c =
    passes c.check_expiration.result _ (IsWithinValidity c.args.certificate.now c.args.integrated_time) (is c) (expiration_none_is c.args.certificate.now c.args.integrated_time) (expiration_none_again c.args.certificate.now c.args.integrated_time)

pub returns-clause-faults : goal.returns-clause-faults
returns-clause-faults c =
    fails c.check_expiration.result _ (IsExpirationFault c.args.certificate.now c.args.integrated_time) (is c) (expiration_fault_is c.args.certificate.now c.args.integrated_time) (expiration_fault_again c.args.certificate.now c.args.integrated_time)
