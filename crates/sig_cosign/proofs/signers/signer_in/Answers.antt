use Rattle.std.proofs.Common.{w64, FitsSigned, arith, rules, ap, option_map}
use Rattle.std.proofs.lemmas.Int.{ints, to_z-of_z}
use Rattle.sig_cosign.proofs.LayerSigners.{in_found, in_only}
use Rattle.sig_cosign.proofs.signers.signer_in.Goals as goal

pub returns-in-Some-clause-found : goal.returns-in-Some-clause-found
returns-in-Some-clause-found g c =
    let at_fits : FitsSigned w64 c.args.integrated_time = first_of
    (omega (arith, ints, c.ranges.integrated_time.sfits), search rules) in
    let now_fits : FitsSigned w64 c.args.now = first_of (omega (arith, ints, c.ranges.now.sfits), search rules) in
    in_found (g.C.SignatureChecker.cert_accepts c.args.checker.now) c.in-Some.pool.now c.args.der.now _ _ c.args.integrated_time
    c.args.now (to_z-of_z w64 c.args.integrated_time at_fits) (to_z-of_z w64 c.args.now now_fits)
    (option_map (λ p. p.now) c.args.pool) (ap (λ o. option_map (λ p. p.now) o) c.in-Some.is) c.signer_if.result
    c.signer_if.ensures.found

pub returns-in-Some-clause-only : goal.returns-in-Some-clause-only
returns-in-Some-clause-only g c =
    let at_fits : FitsSigned w64 c.args.integrated_time = first_of
    (omega (arith, ints, c.ranges.integrated_time.sfits), search rules) in
    let now_fits : FitsSigned w64 c.args.now = first_of (omega (arith, ints, c.ranges.now.sfits), search rules) in
    in_only (g.C.SignatureChecker.cert_accepts c.args.checker.now) c.in-Some.pool.now c.args.der.now _ _ c.args.integrated_time
    c.args.now (to_z-of_z w64 c.args.integrated_time at_fits) (to_z-of_z w64 c.args.now now_fits)
    (option_map (λ p. p.now) c.args.pool) (ap (λ o. option_map (λ p. p.now) o) c.in-Some.is) c.signer_if.result
    c.signer_if.ensures.only
