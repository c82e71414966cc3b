use Rattle.std.proofs.Common.{Ok, Err, ap, refl}
use Rattle.sig_verify.proofs.HeldRoots.{entry_there, named_link, verdict_under}
use Rattle.sig_verify.specs.LinkLaws.{trust_of}
use Rattle.sig_verify.specs.Verdict.{checker_of, policy_of}
use Rattle.sig_verify.proofs.held_root.Trust.check_signed.Goals as goal

pub returns-in-Ok-clause-verdict : goal.returns-in-Ok-clause-verdict
returns-in-Ok-clause-verdict g c =
    verdict_under
    (checker_of g.C.SignatureChecker c.args.inputs.now.checker.now)
    (policy_of g.P.VerificationPolicy c.args.inputs.now.policy.now)
    c.args.self.now.verifier c.args.inputs.now.digest.now c.args.bundle.now (Ok c.in-Ok.field-0) (Ok tt) refl c.in-Ok.ensures.steps

pub returns-in-Ok-clause-logged : goal.returns-in-Ok-clause-logged
returns-in-Ok-clause-logged g c =
    entry_there
    (checker_of g.C.SignatureChecker c.args.inputs.now.checker.now)
    (policy_of g.P.VerificationPolicy c.args.inputs.now.policy.now)
    (trust_of c.args.self.now.verifier) c.args.inputs.now.digest.now c.args.bundle.now (Ok c.in-Ok.field-0) refl
    c.in-Ok.ensures.links

pub verification_error-requires : goal.verification_error-requires
verification_error-requires g c =
    named_link
    (checker_of g.C.SignatureChecker c.args.inputs.now.checker.now)
    (policy_of g.P.VerificationPolicy c.args.inputs.now.policy.now)
    (trust_of c.args.self.now.verifier) c.args.inputs.now.digest.now c.args.bundle.now c.in-Err.error c.in-Err.ensures.links

pub returns-in-Err-clause-verdict : goal.returns-in-Err-clause-verdict
returns-in-Err-clause-verdict g c =
    verdict_under
    (checker_of g.C.SignatureChecker c.args.inputs.now.checker.now)
    (policy_of g.P.VerificationPolicy c.args.inputs.now.policy.now)
    c.args.self.now.verifier c.args.inputs.now.digest.now c.args.bundle.now (Err c.in-Err.error) (Err c.verification_error.result)
    (ap Err c.verification_error.ensures) c.in-Err.ensures.steps
