use Rattle.std.proofs.Common.{take}
use Rattle.sig_certificate.specs.Certificates.{AreCertificates}
use Rattle.sig_checked_bundle.proofs.signing_certificate.read_further.Given as goal

-- the certificates so far are those of the encodings so far
abbrev pub invariant-ders : goal.invariant-ders
invariant-ders l = AreCertificates (take l.index l.ders) l.further
