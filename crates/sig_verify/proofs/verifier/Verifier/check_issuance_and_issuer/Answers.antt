use Rattle.sig_base.specs.Answers.{Answers}
use Rattle.sig_verify.proofs.IssuerSteps.{seen}
use Rattle.sig_verify.specs.IssuerCheck.{issuer_key_hash}
use Rattle.sig_verify.specs.declared.error.VerificationError.TheVariants.{OutOfMemory}
use Rattle.sig_x509.specs.Pool.{pool_over}
use Rattle.sig_verify.proofs.verifier.Verifier.check_issuance_and_issuer.Goals as goal

pub returns : goal.returns
returns g c =
    seen c.self.inside.pool.anchors c.self.inside.keyring c.args.self.now c.self.view_is
    c.further-further.result.now c.certificate-leaf.result.now c.args.bundle.now
    c.certificate-leaf.ensures c.further-further.ensures
    (λ anchors ring further leaf. Answers OutOfMemory (λ hash. hash) c.issuer_key_hash.result (issuer_key_hash
    (g.C.SignatureChecker.cert_accepts c.args.inputs.now.checker.now) (pool_over anchors further) leaf))
    c.issuer_key_hash.ensures
