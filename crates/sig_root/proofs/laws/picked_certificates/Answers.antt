use Rattle.sig_root.proofs.GivenCertificates.{given, given_again}
use Rattle.sig_root.proofs.laws.picked_certificates.Goals as goal

pub returns : goal.returns
returns c = λ now authorities certificate. (
  given now authorities certificate,
  given_again now authorities certificate,
)
