use Rattle.std.proofs.Common.{◌≡◌, Err, rules}
use Rattle.sig_key.specs.Kind.{key_parts}
use Rattle.sig_verify.proofs.VerdictSteps.{all_passed, body_failed, issuer_failed, key_failed, policy_failed}
use Rattle.sig_verify.proofs.VerdictSteps.{sct_failed, signature_failed, subject_failed}
use Rattle.sig_verify.specs.Verdict.{checker_of, policy_of}
use Rattle.sig_verify.proofs.verifier.Verifier.judge_checked.Goals as goal

pub returns-in_err-issuer_key_hash : goal.returns-in_err-issuer_key_hash
returns-in_err-issuer_key_hash g c =
    let is : c.from_residual.result ≡ Err c.in_err-issuer_key_hash.field-0.0 =
    search (rules, c.from_residual) in
    rw is (issuer_failed (checker_of g.C.SignatureChecker c.args.inputs.now.checker.now) c.args.self.now
    (policy_of g.P.VerificationPolicy c.args.inputs.now.policy.now) c.args.inputs.now.digest.now c.args.offline
    c.args.bundle.now
    c.in_err-issuer_key_hash.field-0.0 c.in_err-issuer_key_hash.ensures)

pub returns-in_err-check_sct : goal.returns-in_err-check_sct
returns-in_err-check_sct g c =
    let is : c.from_residual-in_err-check_sct.result ≡ Err c.in_err-check_sct.field-0.0 =
    search (rules, c.from_residual-in_err-check_sct) in
    rw is (sct_failed (checker_of g.C.SignatureChecker c.args.inputs.now.checker.now) c.args.self.now
    (policy_of g.P.VerificationPolicy c.args.inputs.now.policy.now) c.args.inputs.now.digest.now c.args.offline
    c.args.bundle.now
    c.in_ok-issuer_key_hash.issuer_key_hash c.in_ok-issuer_key_hash.ensures
    c.in_err-check_sct.field-0.0 c.in_err-check_sct.ensures)

pub returns-in_err-check_policy : goal.returns-in_err-check_policy
returns-in_err-check_policy g c =
    let is : c.from_residual-in_err-check_policy.result ≡ Err c.in_err-check_policy.field-0.0 =
    search (rules, c.from_residual-in_err-check_policy) in
    rw is (policy_failed (checker_of g.C.SignatureChecker c.args.inputs.now.checker.now) c.args.self.now
    (policy_of g.P.VerificationPolicy c.args.inputs.now.policy.now) c.args.inputs.now.digest.now c.args.offline
    c.args.bundle.now
    c.in_ok-issuer_key_hash.issuer_key_hash c.in_ok-issuer_key_hash.ensures
    c.in_ok-check_sct.ensures
    c.in_err-check_policy.field-0.0 c.in_err-check_policy.ensures)

pub returns-in_err-key : goal.returns-in_err-key
returns-in_err-key g c =
    let is : c.from_residual-in_err-key.result ≡ Err c.in_err-key.field-0.0 =
    search (rules, c.from_residual-in_err-key) in
    rw is (key_failed (checker_of g.C.SignatureChecker c.args.inputs.now.checker.now) c.args.self.now
    (policy_of g.P.VerificationPolicy c.args.inputs.now.policy.now) c.args.inputs.now.digest.now c.args.offline
    c.args.bundle.now
    c.in_ok-issuer_key_hash.issuer_key_hash c.in_ok-issuer_key_hash.ensures
    c.in_ok-check_sct.ensures
    c.in_ok-check_policy.ensures
    c.in_err-key.field-0.0 c.in_err-key.ensures)

pub returns-in_err-check_signature : goal.returns-in_err-check_signature
returns-in_err-check_signature g c =
    let is : c.from_residual-in_err-check_signature.result ≡ Err c.in_err-check_signature.field-0.0 =
    search (rules, c.from_residual-in_err-check_signature) in
    rw is (signature_failed (checker_of g.C.SignatureChecker c.args.inputs.now.checker.now) c.args.self.now
    (policy_of g.P.VerificationPolicy c.args.inputs.now.policy.now) c.args.inputs.now.digest.now c.args.offline
    c.args.bundle.now
    c.in_ok-issuer_key_hash.issuer_key_hash c.in_ok-issuer_key_hash.ensures
    c.in_ok-check_sct.ensures
    c.in_ok-check_policy.ensures
    (key_parts c.in_ok-key.key) c.in_ok-key.ensures
    c.in_err-check_signature.field-0.0 c.in_err-check_signature.ensures)

pub returns-in_err-check_subject : goal.returns-in_err-check_subject
returns-in_err-check_subject g c =
    let is : c.from_residual-in_err-check_subject.result ≡ Err c.in_err-check_subject.field-0.0 =
    search (rules, c.from_residual-in_err-check_subject) in
    rw is (subject_failed (checker_of g.C.SignatureChecker c.args.inputs.now.checker.now) c.args.self.now
    (policy_of g.P.VerificationPolicy c.args.inputs.now.policy.now) c.args.inputs.now.digest.now c.args.offline
    c.args.bundle.now
    c.in_ok-issuer_key_hash.issuer_key_hash c.in_ok-issuer_key_hash.ensures
    c.in_ok-check_sct.ensures
    c.in_ok-check_policy.ensures
    (key_parts c.in_ok-key.key) c.in_ok-key.ensures
    c.in_ok-check_signature.ensures
    c.in_err-check_subject.field-0.0 c.in_err-check_subject.ensures)

pub returns-in_err-check_body : goal.returns-in_err-check_body
returns-in_err-check_body g c =
    let is : c.from_residual-in_err-check_body.result ≡ Err c.in_err-check_body.field-0.0 =
    search (rules, c.from_residual-in_err-check_body) in
    rw is (body_failed (checker_of g.C.SignatureChecker c.args.inputs.now.checker.now) c.args.self.now
    (policy_of g.P.VerificationPolicy c.args.inputs.now.policy.now) c.args.inputs.now.digest.now c.args.offline
    c.args.bundle.now
    c.in_ok-issuer_key_hash.issuer_key_hash c.in_ok-issuer_key_hash.ensures
    c.in_ok-check_sct.ensures
    c.in_ok-check_policy.ensures
    (key_parts c.in_ok-key.key) c.in_ok-key.ensures
    c.in_ok-check_signature.ensures
    c.in_ok-check_subject.ensures
    c.in_err-check_body.field-0.0 c.in_err-check_body.ensures)

pub returns : goal.returns
returns g c =
    all_passed (checker_of g.C.SignatureChecker c.args.inputs.now.checker.now) c.args.self.now
    (policy_of g.P.VerificationPolicy c.args.inputs.now.policy.now) c.args.inputs.now.digest.now c.args.offline
    c.args.bundle.now
    c.in_ok-issuer_key_hash.issuer_key_hash c.in_ok-issuer_key_hash.ensures
    c.in_ok-check_sct.ensures
    c.in_ok-check_policy.ensures
    (key_parts c.in_ok-key.key) c.in_ok-key.ensures
    c.in_ok-check_signature.ensures
    c.in_ok-check_subject.ensures
    c.in_ok-check_body.ensures
    c.check_time.result c.check_time.ensures
