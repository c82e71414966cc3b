use Rattle.std.proofs.Common.{◌≡◌, Err, rules}
use Rattle.sig_verify.proofs.CertificateBytes.{read_of_bundle}
use Rattle.sig_verify.proofs.VerdictSteps.{after_checks, few_further, not_passed}
use Rattle.sig_verify.proofs.VerifiedBundles.{verdict_linked}
use Rattle.sig_verify.specs.Errors.{of_bundle}
use Rattle.sig_verify.specs.Verdict.{checker_of, policy_of}
use Rattle.sig_verify.proofs.verifier.Verifier.judge_bundle.Goals as goal

pub returns-in_err-checked-clause-links : goal.returns-in_err-checked-clause-links
returns-in_err-checked-clause-links g c =
    let is : c.from_residual.result ≡ Err (of_bundle c.in_err-checked.field-0.0) = search (rules, c.from_residual) in
    rw is (verdict_linked c.certificates.ensures c.passed_bundles.ensures c.bundles.ensures
    (checker_of g.C.SignatureChecker c.args.inputs.now.checker.now)
    (policy_of g.P.VerificationPolicy c.args.inputs.now.policy.now) c.args.self.now c.args.inputs.now.digest.now
    c.args.offline c.args.bundle.now (read_of_bundle c.args.bundle.now c.is_certificate_bytes.ensures)
    (Err (of_bundle c.in_err-checked.field-0.0))
    (not_passed (checker_of g.C.SignatureChecker c.args.inputs.now.checker.now) c.args.self.now
    (policy_of g.P.VerificationPolicy c.args.inputs.now.policy.now) c.args.inputs.now.digest.now c.args.offline
    c.args.bundle.now c.in_err-checked.field-0.0 c.in_err-checked.ensures.answer.0))

pub returns-in_err-checked-clause-steps : goal.returns-in_err-checked-clause-steps
returns-in_err-checked-clause-steps g c =
    let is : c.from_residual.result ≡ Err (of_bundle c.in_err-checked.field-0.0) = search (rules, c.from_residual) in
    rw is (not_passed (checker_of g.C.SignatureChecker c.args.inputs.now.checker.now) c.args.self.now
    (policy_of g.P.VerificationPolicy c.args.inputs.now.policy.now) c.args.inputs.now.digest.now c.args.offline
    c.args.bundle.now c.in_err-checked.field-0.0 c.in_err-checked.ensures.answer.0)

pub judge_checked-requires : goal.judge_checked-requires
judge_checked-requires g c =
    record {
      few = few_further c.args.bundle.now c.in_ok-checked.checked
          (c.in_ok-checked.ensures.passed c.in_ok-checked.checked);
    }

pub returns-clause-links : goal.returns-clause-links
returns-clause-links g c =
    verdict_linked c.certificates.ensures c.passed_bundles.ensures c.bundles.ensures
    (checker_of g.C.SignatureChecker c.args.inputs.now.checker.now)
    (policy_of g.P.VerificationPolicy c.args.inputs.now.policy.now) c.args.self.now c.args.inputs.now.digest.now
    c.args.offline c.args.bundle.now (read_of_bundle c.args.bundle.now c.is_certificate_bytes.ensures)
    c.judge_checked.result
    (after_checks (checker_of g.C.SignatureChecker c.args.inputs.now.checker.now) c.args.self.now
    (policy_of g.P.VerificationPolicy c.args.inputs.now.policy.now) c.args.inputs.now.digest.now c.args.offline
    c.args.bundle.now c.in_ok-checked.checked c.in_ok-checked.ensures.answer.0 c.judge_checked.result
    c.judge_checked.ensures)

pub returns-clause-steps : goal.returns-clause-steps
returns-clause-steps g c =
    after_checks (checker_of g.C.SignatureChecker c.args.inputs.now.checker.now) c.args.self.now
    (policy_of g.P.VerificationPolicy c.args.inputs.now.policy.now) c.args.inputs.now.digest.now c.args.offline
    c.args.bundle.now c.in_ok-checked.checked c.in_ok-checked.ensures.answer.0 c.judge_checked.result
    c.judge_checked.ensures
