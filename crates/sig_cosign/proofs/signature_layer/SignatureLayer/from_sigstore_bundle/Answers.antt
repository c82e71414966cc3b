use Rattle.std.proofs.Common.{option_map, w64, FitsSigned, arith, rules}
use Rattle.std.proofs.lemmas.Int.{ints, to_z-of_z}
use Rattle.sig_attestation.specs.Attestation.{attestation_answer}
use Rattle.sig_cosign.proofs.BundleLayers.{bundle_only}
use Rattle.sig_cosign.specs.BundleLayer.{place_of}
use Rattle.sig_cosign.specs.Trust.{trust_in}
use Rattle.sig_cosign.proofs.signature_layer.SignatureLayer.from_sigstore_bundle.Goals as goal

pub returns-in-Ok-clause-only : goal.returns-in-Ok-clause-only
returns-in-Ok-clause-only g c =
    let now_fits : FitsSigned w64 c.args.now = first_of (omega (arith, ints, c.ranges.now.sfits), search rules) in
    bundle_only
    (trust_in (g.C.SignatureChecker.spki_accepts c.args.checker.now) (g.C.SignatureChecker.cert_accepts c.args.checker.now)
    (option_map (λ k. k.now) c.args.rekor_pub_keys) (option_map (λ p. p.now) c.args.fulcio_cert_pool) c.args.now)
    (place_of c.args.layer_digest.now c.args.source_image_ref.now)
    (attestation_answer (g.C.SignatureChecker.spki_accepts c.args.checker.now) (option_map (λ k. k.now) c.args.rekor_pub_keys)
    c.args.source_image_digest.now c.args.bundle.now)
    c.in-Ok.attestation c.in-Ok.ensures.answer c.attested.result _
    (to_z-of_z w64 c.args.now now_fits) c.attested.ensures.only c.attested.ensures.only_memory
