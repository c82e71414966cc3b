use Rattle.std.proofs.Common.{ap, option_map, w64, FitsSigned, arith, rules, ℤ}
use Rattle.std.proofs.lemmas.Int.{ints, to_z-of_z}
use Rattle.sig_cosign.proofs.DescriptorLayers.{err_found, err_only, ok_found, ok_only}
use Rattle.sig_cosign.specs.Trust.{trust_in}
use Rattle.sig_cosign.proofs.manifest.layer_if.Goals as goal

pub returns-in-Ok-clause-found : goal.returns-in-Ok-clause-found
returns-in-Ok-clause-found g c =
    let now_fits : FitsSigned w64 c.args.now = first_of (omega (arith, ints, c.ranges.now.sfits), search rules) in
    ok_found _ _ (ap (λ (t : ℤ). trust_in (g.C.SignatureChecker.spki_accepts c.args.checker.now)
    (g.C.SignatureChecker.cert_accepts c.args.checker.now) (option_map (λ k. k.now) c.args.keys)
    (option_map (λ p. p.now) c.args.pool) t) (to_z-of_z w64 c.args.now now_fits))
    c.args.source.now c.args.descriptor.now c.args.layer.now c.in-Ok.made c.in-Ok.ensures.found

pub returns-in-Ok-clause-only : goal.returns-in-Ok-clause-only
returns-in-Ok-clause-only g c =
    let now_fits : FitsSigned w64 c.args.now = first_of (omega (arith, ints, c.ranges.now.sfits), search rules) in
    ok_only _ _ (ap (λ (t : ℤ). trust_in (g.C.SignatureChecker.spki_accepts c.args.checker.now)
    (g.C.SignatureChecker.cert_accepts c.args.checker.now) (option_map (λ k. k.now) c.args.keys)
    (option_map (λ p. p.now) c.args.pool) t) (to_z-of_z w64 c.args.now now_fits))
    c.args.source.now c.args.descriptor.now c.args.layer.now c.in-Ok.made c.in-Ok.ensures.only

pub returns-in-Err-clause-found : goal.returns-in-Err-clause-found
returns-in-Err-clause-found g c =
    let now_fits : FitsSigned w64 c.args.now = first_of (omega (arith, ints, c.ranges.now.sfits), search rules) in
    err_found _ _ (ap (λ (t : ℤ). trust_in (g.C.SignatureChecker.spki_accepts c.args.checker.now)
    (g.C.SignatureChecker.cert_accepts c.args.checker.now) (option_map (λ k. k.now) c.args.keys)
    (option_map (λ p. p.now) c.args.pool) t) (to_z-of_z w64 c.args.now now_fits))
    c.args.source.now c.args.descriptor.now c.args.layer.now
    c.in-Err.error c.none_unless.result c.none_unless.ensures c.in-Err.ensures.err

pub returns-in-Err-clause-only : goal.returns-in-Err-clause-only
returns-in-Err-clause-only g c =
    let now_fits : FitsSigned w64 c.args.now = first_of (omega (arith, ints, c.ranges.now.sfits), search rules) in
    err_only _ _ (ap (λ (t : ℤ). trust_in (g.C.SignatureChecker.spki_accepts c.args.checker.now)
    (g.C.SignatureChecker.cert_accepts c.args.checker.now) (option_map (λ k. k.now) c.args.keys)
    (option_map (λ p. p.now) c.args.pool) t) (to_z-of_z w64 c.args.now now_fits))
    c.args.source.now c.args.descriptor.now c.args.layer.now
    c.in-Err.error c.none_unless.result c.none_unless.ensures c.in-Err.ensures.only
