use Rattle.sig_certificate.proofs.OneCertificate.{certificate_one}
use Rattle.sig_certificate.proofs.laws.certificates.Goals as goal

pub returns : goal.returns
returns c = certificate_one
