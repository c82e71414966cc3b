use Rattle.sig_cosign.specs.Layer.{seen_layer}
use Rattle.sig_cosign.proofs.SignedLayers.{signed_words}
use Rattle.sig_cosign.proofs.signature_layer.SignatureLayer.is_signed_by_key.Goals as goal

pub returns-clause-signed : goal.returns-clause-signed
returns-clause-signed g c =
    signed_words (g.C.SignatureChecker.spki_accepts c.args.checker.now) c.args.verification_key.now
    (seen_layer c.args.self.now) c.check_signed.result c.check_signed.ensures.answer
