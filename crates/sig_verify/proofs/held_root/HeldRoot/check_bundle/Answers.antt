use Rattle.std.proofs.Common.{◌≡◌, Err, rules, sym}
use Rattle.sig_key.specs.Kind.{key_parts}
use Rattle.sig_verify.proofs.HeldRoots.{all_logged, key_failed, key_found, root_failed, signed_failed}
use Rattle.sig_verify.specs.Verdict.{checker_of, policy_of}
use Rattle.sig_verify.proofs.held_root.HeldRoot.check_bundle.Goals as goal

pub returns-in_err-trust : goal.returns-in_err-trust
returns-in_err-trust g c =
    let is : c.from_residual.result ≡ Err c.in_err-trust.field-0.0 = search rules in
    rw is (root_failed
    (checker_of g.C.SignatureChecker c.args.inputs.now.checker.now)
    (policy_of g.P.VerificationPolicy c.args.inputs.now.policy.now)
    c.args.self.now c.args.inputs.now.digest.now c.args.bundle.now c.in_err-trust.field-0.0 c.in_err-trust.ensures)

pub returns-in_err-check_signed : goal.returns-in_err-check_signed
returns-in_err-check_signed g c =
    let is : c.from_residual-in_err-check_signed.result ≡ Err c.in_err-check_signed.field-0.0 = search rules in
    rw is (signed_failed
    (checker_of g.C.SignatureChecker c.args.inputs.now.checker.now)
    (policy_of g.P.VerificationPolicy c.args.inputs.now.policy.now)
    c.args.self.now c.args.inputs.now.digest.now c.args.bundle.now c.in_ok-trust.trust.now c.in_ok-trust.ensures
    c.in_err-check_signed.field-0.0 c.in_err-check_signed.ensures.verdict)

pub returns-in_err-key : goal.returns-in_err-key
returns-in_err-key g c =
    let is : c.from_residual-in_err-key.result ≡ Err c.in_err-key.field-0.0 = search rules in
    rw is (all_logged
    (checker_of g.C.SignatureChecker c.args.inputs.now.checker.now)
    (policy_of g.P.VerificationPolicy c.args.inputs.now.policy.now)
    c.args.self.now c.args.inputs.now.digest.now c.args.bundle.now c.in_ok-trust.trust.now c.in_ok-trust.ensures
    c.in_ok-check_signed.ensures.verdict (Err c.in_err-key.field-0.0)
    (key_failed (g.C.SignatureChecker.spki_accepts c.args.inputs.now.checker.now) c.in_ok-trust.trust.now.log_keys
    c.args.bundle.now c.in-Some.entry.now (sym c.in-Some.ensures) c.in_err-key.field-0.0 c.in_err-key.ensures.key))

pub returns : goal.returns
returns g c =
    all_logged
    (checker_of g.C.SignatureChecker c.args.inputs.now.checker.now)
    (policy_of g.P.VerificationPolicy c.args.inputs.now.policy.now)
    c.args.self.now c.args.inputs.now.digest.now c.args.bundle.now c.in_ok-trust.trust.now c.in_ok-trust.ensures
    c.in_ok-check_signed.ensures.verdict c.vouched.result
    (key_found (g.C.SignatureChecker.spki_accepts c.args.inputs.now.checker.now) c.in_ok-trust.trust.now.log_keys
    c.args.bundle.now c.in-Some.entry.now (sym c.in-Some.ensures) (key_parts c.in_ok-key.key) c.in_ok-key.ensures.key
    c.vouched.result c.vouched.ensures)
