-- Of a certificate whose text is bytes, the key is bytes, and the reader of SCTs says what the certificate has.
use Rattle.std.proofs.Common.{ℕ, List, [], ◌∷◌}
use Rattle.sig_base.proofs.ByteLists.{byte_at, each_byte}
use Rattle.sig_base.specs.ByteLists.{AreBytes}
use Rattle.sig_checked_bundle.specs.Checked.{Checked}
use Rattle.sig_checked_bundle.specs.OfBytes.{HasCertificateOfBytes, IsFirstOfBytes}
use Rattle.sig_checked_bundle.specs.Passed.{IsPassed}
use Rattle.sig_bundle.specs.declared.bundle.Bundle.{Bundle}
use Rattle.sig_certificate.proofs.CertificateBytes.{key_fits}
use Rattle.sig_certificate.specs.Certificate.{Cert, IsCertificate}
use Rattle.sig_certificate.specs.Certificates.{AreCertificates}
use Rattle.sig_der.proofs.Bytes.{IsBytes}
use Rattle.sig_timestamp.proofs.CertificateScts.{said}
use Rattle.sig_verify.specs.LinkLaws.{IsReadCertificate}

pub read_as : (text : List ℕ) (c : Checked) → IsCertificate text c.certificate → AreBytes text → IsReadCertificate c
read_as text c is are =
    let fits : IsBytes text = byte_at text are in
    record {
      spki = each_byte c.certificate.spki (key_fits text c.certificate is fits);
      sct = said text c.certificate is fits;
    }

-- of a bundle whose certificate is bytes
pub read_of_bundle : (b : Bundle) → HasCertificateOfBytes b → (c : Checked) → IsPassed b c → IsReadCertificate c
read_of_bundle b bytes c is =
    read_first is.certificate.encodings c.further is.certificate.read
    (bytes is.material is.certificate.encodings is.brought is.certificate.held)
  where
    read_first : (ders : List (List ℕ)) (later : List Cert) → AreCertificates ders (c.certificate ∷ later)
        → IsFirstOfBytes ders → IsReadCertificate c
    read_first [] later are first = absurd are
    read_first (der ∷ ders) later are first = read_as der c are.0 first
