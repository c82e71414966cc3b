use Rattle.std.proofs.Common.{List, ℕ, ap, subst, ◌∙◌}
use Rattle.sig_base.specs.ByteLists.{AreBytes}
use Rattle.sig_certificate.specs.Certificate.{Cert, IsCertificate}
use Rattle.sig_verify.proofs.CertificateBytes.{read_as}
use Rattle.sig_questions.proofs.bytes.is_read_certificate.Goals as goal

pub returns : goal.returns
returns c =
    read_as c.args.bundle.now.certificate.whole c.args.bundle.now
    (subst (λ (x : Cert). IsCertificate x.whole x) c.certificate-certificate.ensures c.is_certificate.ensures)
    (subst (λ (bytes : List ℕ). AreBytes bytes)
    (c.der.ensures ∙ ap (λ (x : Cert). x.whole) c.certificate-certificate.ensures) c.are_bytes.ensures)
