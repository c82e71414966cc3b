-- The anchors that have a listed key, or that are asked, are enough.
use Rattle.std.proofs.Common.{ℕ, List, ap, ◌∙◌}
use Rattle.std.specs.Prelude.{position}
use Rattle.sig_x509.specs.KeyOrder.{has_some_key}
use Rattle.sig_x509.proofs.FirstAskedAnchors.{first_asked}
use Rattle.sig_x509.proofs.KeyAnswers.{first_signed}
use Rattle.sig_x509.proofs.pool.CertificatePool.first_anchor.Goals as goal

pub returns-in-Some-clause-found : goal.returns-in-Some-clause-found
returns-in-Some-clause-found g c =
    rw (← c.self.view_is) (c.first_of_keys.ensures
    ∙ rw (c.as_slice-anchors.ensures) (ap (λ (name : List ℕ). position (has_some_key name c.in-Some.keys) c.self.inside.anchors) c.issuer.ensures
    ∙ first_signed (g.C.SignatureChecker.cert_accepts c.args.checker.now) c.args.certificate.now c.in-Some.keys
    c.in-Some.ensures c.self.inside.anchors))

pub returns-in-None-clause-found : goal.returns-in-None-clause-found
returns-in-None-clause-found g c =
    rw (← c.self.view_is) (c.first_signer_of.ensures.found ∙ rw (c.as_slice-anchors.ensures, c.deref.ensures.value)
    (first_asked (g.C.SignatureChecker.cert_accepts c.args.checker.now) c.args.certificate.now c.self.inside.anchors
    c.self.inside.asked.items c.self.invariant.0.0))
