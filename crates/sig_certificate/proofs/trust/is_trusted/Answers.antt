use Rattle.std.proofs.Common.{◌≡◌}
use Rattle.std.proofs.Math.Facts.{to_z-of_z}
use Rattle.sig_certificate.specs.Profile.{error_of}
use Rattle.sig_certificate.specs.Trust.{trust_refusal}
use Rattle.sig_certificate.specs.Faults.{IsTrusted, IsTrustFault}
use Rattle.sig_certificate.proofs.Clauses.{passes, fails, at_times}
use Rattle.sig_certificate.proofs.TrustFaults.{trust_is, trust_again, trust_fault_is, trust_fault_again}
use Rattle.sig_certificate.proofs.trust.is_trusted.Goals as goal

-- the result at the times as they are given
is : (c : goal.After-check_trust) → error_of c.check_trust.result
    ≡ trust_refusal c.args.certificate.now c.args.integrated_time c.args.now
is c =
    at_times (error_of c.check_trust.result) (trust_refusal c.args.certificate.now) _ _ c.args.integrated_time c.args.now
    (to_z-of_z c.ranges.integrated_time) (to_z-of_z c.ranges.now) c.check_trust.ensures

pub returns-clause-passes : goal.returns-clause-passes
returns-clause-passes c =
    passes c.check_trust.result _ (IsTrusted c.args.certificate.now c.args.integrated_time c.args.now) (is c) (trust_is c.args.certificate.now c.args.integrated_time c.args.now) (trust_again c.args.certificate.now c.args.integrated_time c.args.now)

pub returns-clause-faults : goal.returns-clause-faults
returns-clause-faults c =
    fails c.check_trust.result _ (IsTrustFault c.args.certificate.now c.args.integrated_time c.args.now) (is c) (trust_fault_is c.args.certificate.now c.args.integrated_time c.args.now) (trust_fault_again c.args.certificate.now c.args.integrated_time c.args.now)
