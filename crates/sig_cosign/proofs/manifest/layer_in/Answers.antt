use Rattle.std.proofs.Common.{ap, option_map, w64, FitsSigned, arith, rules, ℤ}
use Rattle.std.proofs.lemmas.Int.{ints, to_z-of_z}
use Rattle.sig_cosign.proofs.DescriptorLayers.{in_found, in_only}
use Rattle.sig_cosign.specs.Trust.{trust_in}
use Rattle.sig_cosign.proofs.manifest.layer_in.Goals as goal

pub returns-in-Some-clause-found : goal.returns-in-Some-clause-found
returns-in-Some-clause-found g c =
    let now_fits : FitsSigned w64 c.args.now = first_of (omega (arith, ints, c.ranges.now.sfits), search rules) in
    in_found _ _ (ap (λ (t : ℤ). trust_in (g.C.SignatureChecker.spki_accepts c.args.checker.now)
    (g.C.SignatureChecker.cert_accepts c.args.checker.now) (option_map (λ k. k.now) c.args.keys)
    (option_map (λ p. p.now) c.args.pool) t) (to_z-of_z w64 c.args.now now_fits))
    c.args.source.now c.args.descriptor.now c.in-Some.layer.now
    (option_map (λ l. l.now) c.args.layer) (ap (λ o. option_map (λ l. l.now) o) c.in-Some.is) c.layer_if.result
    c.layer_if.ensures.found

pub returns-in-Some-clause-only : goal.returns-in-Some-clause-only
returns-in-Some-clause-only g c =
    let now_fits : FitsSigned w64 c.args.now = first_of (omega (arith, ints, c.ranges.now.sfits), search rules) in
    in_only _ _ (ap (λ (t : ℤ). trust_in (g.C.SignatureChecker.spki_accepts c.args.checker.now)
    (g.C.SignatureChecker.cert_accepts c.args.checker.now) (option_map (λ k. k.now) c.args.keys)
    (option_map (λ p. p.now) c.args.pool) t) (to_z-of_z w64 c.args.now now_fits))
    c.args.source.now c.args.descriptor.now c.in-Some.layer.now
    (option_map (λ l. l.now) c.args.layer) (ap (λ o. option_map (λ l. l.now) o) c.in-Some.is) c.layer_if.result
    c.layer_if.ensures.only
