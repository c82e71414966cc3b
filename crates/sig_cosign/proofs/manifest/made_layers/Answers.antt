-- One more descriptor.
use Rattle.std.proofs.Common.{rules, arith, option_map, refl, ap, ◌∙◌, ◌+◌, w64, FitsSigned, ℕ, ℤ, List, Option}
use Rattle.std.proofs.lemmas.Int.{ints, to_z-of_z}
use Rattle.std.specs.Borrow.{Bor}
use Rattle.sig_cosign.proofs.ManifestLayers.{added, found_all, more, only_all, unchanged}
use Rattle.sig_cosign.specs.Manifest.{first_with}
use Rattle.sig_cosign.specs.Trust.{trust_in}
use Rattle.sig_cosign.specs.declared.source.ImageLayer.{ImageLayer}
use Rattle.sig_cosign.proofs.manifest.made_layers.Goals as goal
use Rattle.sig_cosign.proofs.manifest.made_layers.Goals.{in-Some+in_ok-push, in_default}

pub descriptors-preserved : goal.descriptors-preserved
descriptors-preserved g c =
    more _ c.args.source.now c.args.layers.now c.args.descriptors.now c.descriptors.descriptor-index
    c.descriptor-item.result c.descriptors-test.true c.descriptor-item.is c.descriptors.made c.descriptors.invariant
    _ refl (option_map (λ l. l.now) c.copied-layer.result)
    (ap (λ (o : Option (Bor ImageLayer)). option_map (λ l. l.now) o) (c.copied-layer.ensures ∙ c.get.ensures.value)
    ∙ c.in_ok-firsts.ensures c.as_str.result.now
    ∙ ap (λ (digest : List ℕ). first_with digest c.args.layers.now) c.as_str.ensures)
    c.in_ok-one.one c.in_ok-one.ensures.found c.in_ok-one.ensures.only c.match-one.made
    (elim c.match-one.branch [
      | in-Some+in_ok-push w ↦
          added c.descriptors.made c.match-one.made c.in_ok-one.one _ w.in-Some.is
          (w.made-is ∙ w.in_ok-push.ensures.ok)
      | in_default w ↦ unchanged c.descriptors.made c.match-one.made c.in_ok-one.one w.in_default.is w.made-is
    ])

pub returns-clause-found : goal.returns-clause-found
returns-clause-found g c =
    let now_fits : FitsSigned w64 c.args.now = first_of (omega (arith, ints, c.ranges.now.sfits), search rules) in
    found_all _ _ (ap (λ (t : ℤ). trust_in (g.C.SignatureChecker.spki_accepts c.args.checker.now)
    (g.C.SignatureChecker.cert_accepts c.args.checker.now) (option_map (λ k. k.now) c.args.keys)
    (option_map (λ p. p.now) c.args.pool) t) (to_z-of_z w64 c.args.now now_fits))
    c.args.source.now c.args.layers.now c.args.descriptors.now c.descriptors.descriptor-index (search rules) _
    c.descriptors.invariant

pub returns-clause-only : goal.returns-clause-only
returns-clause-only g c =
    let now_fits : FitsSigned w64 c.args.now = first_of (omega (arith, ints, c.ranges.now.sfits), search rules) in
    only_all _ _ (ap (λ (t : ℤ). trust_in (g.C.SignatureChecker.spki_accepts c.args.checker.now)
    (g.C.SignatureChecker.cert_accepts c.args.checker.now) (option_map (λ k. k.now) c.args.keys)
    (option_map (λ p. p.now) c.args.pool) t) (to_z-of_z w64 c.args.now now_fits))
    c.args.source.now c.args.layers.now c.args.descriptors.now c.descriptors.descriptor-index (search rules) _
    c.descriptors.invariant
