use Rattle.std.proofs.Common.{option_map, w64, FitsSigned, arith, rules}
use Rattle.std.proofs.lemmas.Int.{ints, to_z-of_z}
use Rattle.sig_cosign.proofs.OciLayers.{layer_only}
use Rattle.sig_cosign.specs.OciLayer.{parts_answer}
use Rattle.sig_cosign.specs.Seen.{seen_parts}
use Rattle.sig_cosign.specs.Trust.{trust_in}
use Rattle.sig_cosign.proofs.signature_layer.SignatureLayer.new.Goals as goal

pub returns-in-Ok-clause-only : goal.returns-in-Ok-clause-only
returns-in-Ok-clause-only g c =
    let now_fits : FitsSigned w64 c.args.now = first_of (omega (arith, ints, c.ranges.now.sfits), search rules) in
    layer_only
    (trust_in (g.C.SignatureChecker.spki_accepts c.args.checker.now) (g.C.SignatureChecker.cert_accepts c.args.checker.now)
    (option_map (λ k. k.now) c.args.rekor_pub_keys) (option_map (λ p. p.now) c.args.fulcio_cert_pool) c.args.now)
    c.args.descriptor.now c.args.layer.now
    (parts_answer (g.C.SignatureChecker.spki_accepts c.args.checker.now) (option_map (λ k. k.now) c.args.rekor_pub_keys)
    c.args.descriptor.now c.args.layer.now c.args.source_image_digest.now)
    (seen_parts c.in-Ok.parts) c.in-Ok.ensures c.with_signer.result _
    (to_z-of_z w64 c.args.now now_fits) c.with_signer.ensures.only c.with_signer.ensures.only_memory
