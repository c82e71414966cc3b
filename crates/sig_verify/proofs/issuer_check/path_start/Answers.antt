use Rattle.std.proofs.Common.{◌≡◌, Err, subst, sym, w64, FitsSigned, arith, rules, ◌∙◌}
use Rattle.std.proofs.lemmas.Int.{ints, to_z-of_z}
use Rattle.sig_base.specs.Answers.{OrMemory}
use Rattle.sig_verify.specs.IssuerCheck.{path_start}
use Rattle.sig_x509.specs.Pool.{pool_over}
use Rattle.sig_verify.specs.declared.error.VerificationError.{VerificationError}
use Rattle.sig_verify.specs.declared.error.VerificationError.TheVariants.{OutOfMemory}
use Rattle.sig_verify.proofs.Issuers.{issuer_found, issuer_refused}
use Rattle.sig_verify.proofs.issuer_check.path_start.Goals as goal

pub returns-in-Ok : goal.returns-in-Ok
returns-in-Ok g c =
    let fits : FitsSigned w64 c.not_before-time.result = first_of
    (omega (arith, ints, c.not_before-time.type_inv), search rules) in
    issuer_found (g.C.SignatureChecker.cert_accepts c.args.checker.now) c.args.pool.now c.args.further.now
    c.args.leaf.now _
    (to_z-of_z w64 c.not_before-time.result fits ∙ c.not_before-time.ensures) c.requires.alone c.in-Ok.issuer
    c.in-Ok.ensures.exact

pub returns-in-Err : goal.returns-in-Err
returns-in-Err g c =
    let fits : FitsSigned w64 c.not_before-time.result = first_of
    (omega (arith, ints, c.not_before-time.type_inv), search rules) in
    let refused = issuer_refused (g.C.SignatureChecker.cert_accepts c.args.checker.now) c.args.pool.now
    c.args.further.now c.args.leaf.now _
    (to_z-of_z w64 c.not_before-time.result fits ∙ c.not_before-time.ensures) c.requires.alone c.in-Err.error
    c.in-Err.ensures.exact in
    subst (λ (e : VerificationError). OrMemory OutOfMemory e (path_start
    (g.C.SignatureChecker.cert_accepts c.args.checker.now) (pool_over c.args.pool.now.anchors c.args.further.now)
    c.args.leaf.now ≡ Err e))
    (sym c.from.ensures) refused
