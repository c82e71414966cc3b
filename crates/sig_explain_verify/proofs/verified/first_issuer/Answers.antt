use Rattle.std.proofs.Common.{sym, ap, w64, FitsSigned, arith, rules, ◌∙◌}
use Rattle.std.proofs.lemmas.Int.{ints, to_z-of_z}
use Rattle.std.specs.Result.{result_ok}
use Rattle.sig_verify.proofs.Issuers.{issuer_found, issuer_refused}
use Rattle.sig_verify.specs.IssuerCheck.{path_start}
use Rattle.sig_x509.specs.Pool.{pool_over}
use Rattle.sig_explain_verify.proofs.Issuers.{none_found}
use Rattle.sig_explain_verify.specs.Verified.{accepts_of}
use Rattle.sig_explain_verify.proofs.verified.first_issuer.Goals as goal

pub returns-in-Ok : goal.returns-in-Ok
returns-in-Ok c =
    let fits : FitsSigned w64 c.not_before-time.result = first_of
    (omega (arith, ints, c.not_before-time.type_inv), search rules) in
    sym (ap result_ok (issuer_found (accepts_of c.args.accepted.now) c.args.pool.now c.args.further.now c.args.leaf.now _
    (to_z-of_z w64 c.not_before-time.result fits ∙ c.not_before-time.ensures) c.requires.alone c.in-Ok.issuer
    c.in-Ok.ensures.exact))

pub returns-in-Err : goal.returns-in-Err
returns-in-Err c =
    let fits : FitsSigned w64 c.not_before-time.result = first_of
    (omega (arith, ints, c.not_before-time.type_inv), search rules) in
    none_found
    (path_start (accepts_of c.args.accepted.now) (pool_over c.args.pool.now.anchors c.args.further.now) c.args.leaf.now)
    c.in-Err.error c.no_issuer.result
    (issuer_refused (accepts_of c.args.accepted.now) c.args.pool.now c.args.further.now c.args.leaf.now _
    (to_z-of_z w64 c.not_before-time.result fits ∙ c.not_before-time.ensures) c.requires.alone c.in-Err.error
    c.in-Err.ensures.exact)
    c.no_issuer.ensures
