-- A pool is made, or one of the chain is not a trust anchor.
use Rattle.std.proofs.Common.{w64, FitsSigned, arith, rules}
use Rattle.std.proofs.lemmas.Int.{ints, to_z-of_z}
use Rattle.sig_constraint.proofs.ChainLaws.{by_error, by_pool, issued_at, no_intermediates}
use Rattle.sig_constraint.proofs.certificate_chain.check_ders.Goals as goal

pub returns-in-Ok : goal.returns-in-Ok
returns-in-Ok g c =
    let fits : FitsSigned w64 c.args.now = first_of (omega (arith, ints, c.ranges.now.sfits), search rules) in
    by_pool (g.C.SignatureChecker.cert_accepts c.args.checker.now) c.args.certificate.now c.args.now
    c.certificates.ensures c.args.ders.now c.in-Ok.pool c.check_issued.result c.in-Ok.ensures.anchors
    (no_intermediates c.new-none.result c.in-Ok.pool.intermediates c.new-none.ensures c.in-Ok.ensures.intermediates)
    (issued_at (g.C.SignatureChecker.cert_accepts c.args.checker.now) c.in-Ok.pool c.args.certificate.now _ c.args.now
    (to_z-of_z w64 c.args.now fits) c.check_issued.result c.check_issued.ensures)

pub returns : goal.returns
returns g c =
    by_error (g.C.SignatureChecker.cert_accepts c.args.checker.now) c.args.certificate.now c.args.now c.args.ders.now
    c.new-none.result c.in-Err.error c.pool_error.result c.new-none.ensures c.pool_error.ensures c.in-Err.ensures.err
    c.in-Err.ensures.anchor
