-- The encodings of certificates, one by one.
use Rattle.std.specs.Prelude.{ℕ, List}
use Rattle.std.specs.List.{AllZip}
use Rattle.sig_certificate.specs.Certificate.{Cert, IsCertificate}

abbrev pub AreCertificates : List (List ℕ) → List Cert → Type 0
AreCertificates ders certificates = AllZip IsCertificate ders certificates
