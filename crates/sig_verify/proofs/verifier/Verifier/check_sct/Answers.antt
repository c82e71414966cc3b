use Rattle.std.proofs.Common.{◌≡◌, Err, Ok, ap, subst, sym}
use Rattle.sig_base.specs.Answers.{OrMemory}
use Rattle.sig_verify.proofs.IssuerSteps.{sct_renamed, seen_leaf}
use Rattle.sig_verify.specs.IssuerCheck.{from_sct, sct_answer_with}
use Rattle.sig_verify.specs.declared.error.VerificationError.{VerificationError}
use Rattle.sig_verify.specs.declared.error.VerificationError.TheVariants.{OutOfMemory}
use Rattle.sig_verify.proofs.verifier.Verifier.check_sct.Goals as goal

pub returns-in-Ok : goal.returns-in-Ok
returns-in-Ok g c =
    seen_leaf c.self.inside.pool.anchors c.self.inside.keyring c.args.self.now c.self.view_is
    c.certificate-leaf.result.now c.args.bundle.now c.certificate-leaf.ensures
    (λ ring leaf. from_sct (sct_answer_with (g.C.SignatureChecker.point_accepts c.args.inputs.now.checker.now) ring leaf
    c.args.issuer_key_hash) ≡ Ok tt)
    (ap from_sct c.in-Ok.ensures)

pub returns-in-Err : goal.returns-in-Err
returns-in-Err g c =
    seen_leaf c.self.inside.pool.anchors c.self.inside.keyring c.args.self.now c.self.view_is
    c.certificate-leaf.result.now c.args.bundle.now c.certificate-leaf.ensures
    (λ ring leaf. OrMemory OutOfMemory c.from.result (from_sct (sct_answer_with
    (g.C.SignatureChecker.point_accepts c.args.inputs.now.checker.now) ring leaf c.args.issuer_key_hash)
    ≡ Err c.from.result))
    (subst (λ (e : VerificationError). OrMemory OutOfMemory e (from_sct (sct_answer_with
    (g.C.SignatureChecker.point_accepts c.args.inputs.now.checker.now) c.self.inside.keyring
    c.certificate-leaf.result.now c.args.issuer_key_hash) ≡ Err e)) (sym c.from.ensures)
    (sct_renamed (g.C.SignatureChecker.point_accepts c.args.inputs.now.checker.now) c.self.inside.keyring
    c.certificate-leaf.result.now c.args.issuer_key_hash c.in-Err.error c.in-Err.ensures))
