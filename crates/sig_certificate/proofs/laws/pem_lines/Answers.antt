use Rattle.sig_certificate.proofs.WrapLaws.{lines_wrapped}
use Rattle.sig_certificate.proofs.laws.pem_lines.Goals as goal

pub returns : goal.returns
returns c = lines_wrapped
