use Rattle.std.proofs.Common.{w64, FitsSigned, arith, rules}
use Rattle.std.proofs.lemmas.Int.{ints, to_z-of_z}
use Rattle.sig_cosign.proofs.LayerSigners.{err_found, err_only, ok_found, ok_only}
use Rattle.sig_cosign.proofs.signers.signer_if.Goals as goal

pub returns-in-Ok-clause-found : goal.returns-in-Ok-clause-found
returns-in-Ok-clause-found g c =
    let at_fits : FitsSigned w64 c.args.integrated_time = first_of
    (omega (arith, ints, c.ranges.integrated_time.sfits), search rules) in
    let now_fits : FitsSigned w64 c.args.now = first_of (omega (arith, ints, c.ranges.now.sfits), search rules) in
    ok_found (g.C.SignatureChecker.cert_accepts c.args.checker.now) c.args.pool.now c.args.der.now _ _ c.args.integrated_time
    c.args.now (to_z-of_z w64 c.args.integrated_time at_fits) (to_z-of_z w64 c.args.now now_fits)
    c.in-Ok.signer c.in-Ok.ensures.found

pub returns-in-Ok-clause-only : goal.returns-in-Ok-clause-only
returns-in-Ok-clause-only g c =
    let at_fits : FitsSigned w64 c.args.integrated_time = first_of
    (omega (arith, ints, c.ranges.integrated_time.sfits), search rules) in
    let now_fits : FitsSigned w64 c.args.now = first_of (omega (arith, ints, c.ranges.now.sfits), search rules) in
    ok_only (g.C.SignatureChecker.cert_accepts c.args.checker.now) c.args.pool.now c.args.der.now _ _ c.args.integrated_time
    c.args.now (to_z-of_z w64 c.args.integrated_time at_fits) (to_z-of_z w64 c.args.now now_fits)
    c.in-Ok.signer c.in-Ok.ensures.only

pub returns-in-Err-clause-found : goal.returns-in-Err-clause-found
returns-in-Err-clause-found g c =
    let at_fits : FitsSigned w64 c.args.integrated_time = first_of
    (omega (arith, ints, c.ranges.integrated_time.sfits), search rules) in
    let now_fits : FitsSigned w64 c.args.now = first_of (omega (arith, ints, c.ranges.now.sfits), search rules) in
    err_found (g.C.SignatureChecker.cert_accepts c.args.checker.now) c.args.pool.now c.args.der.now _ _ c.args.integrated_time
    c.args.now (to_z-of_z w64 c.args.integrated_time at_fits) (to_z-of_z w64 c.args.now now_fits)
    c.in-Err.error c.none_unless.result c.none_unless.ensures c.in-Err.ensures.err

pub returns-in-Err-clause-only : goal.returns-in-Err-clause-only
returns-in-Err-clause-only g c =
    let at_fits : FitsSigned w64 c.args.integrated_time = first_of
    (omega (arith, ints, c.ranges.integrated_time.sfits), search rules) in
    let now_fits : FitsSigned w64 c.args.now = first_of (omega (arith, ints, c.ranges.now.sfits), search rules) in
    err_only (g.C.SignatureChecker.cert_accepts c.args.checker.now) c.args.pool.now c.args.der.now _ _ c.args.integrated_time
    c.args.now (to_z-of_z w64 c.args.integrated_time at_fits) (to_z-of_z w64 c.args.now now_fits)
    c.in-Err.error c.none_unless.result c.none_unless.ensures c.in-Err.ensures.only
