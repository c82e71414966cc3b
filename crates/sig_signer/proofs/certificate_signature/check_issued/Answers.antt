use Rattle.std.proofs.Common.{w64, FitsSigned, arith, rules, ◌∙◌}
use Rattle.std.proofs.lemmas.Int.{ints, to_z-of_z}
use Rattle.sig_signer.proofs.PoolAnswers.{issued_err, issued_ok}
use Rattle.sig_signer.proofs.certificate_signature.check_issued.Goals as goal

pub returns-in-Ok : goal.returns-in-Ok
returns-in-Ok g c =
    let fits : FitsSigned w64 c.not_before-time.result = first_of
    (omega (arith, ints, c.not_before-time.type_inv), search rules) in
    issued_ok (g.C.SignatureChecker.cert_accepts c.args.checker.now) c.args.pool.now c.args.certificate.now _
    (to_z-of_z w64 c.not_before-time.result fits ∙ c.not_before-time.ensures) c.in-Ok.field-0 c.in-Ok.ensures.exact

pub returns-in-Err : goal.returns-in-Err
returns-in-Err g c =
    let fits : FitsSigned w64 c.not_before-time.result = first_of
    (omega (arith, ints, c.not_before-time.type_inv), search rules) in
    issued_err (g.C.SignatureChecker.cert_accepts c.args.checker.now) c.args.pool.now c.args.certificate.now _
    (to_z-of_z w64 c.not_before-time.result fits ∙ c.not_before-time.ensures) c.in-Err.error c.pool_error.result
    c.pool_error.ensures c.in-Err.ensures.exact
