use Rattle.std.proofs.Common.{take}
use Rattle.sig_certificate.specs.Certificates.{AreCertificates}
use Rattle.sig_explain_verify.proofs.trust.read_certificates.Given as goal

-- the certificates so far are those of the DERs so far
abbrev pub invariant-ders : goal.invariant-ders
invariant-ders l = AreCertificates (take l.der-index l.ders) l.certificates
