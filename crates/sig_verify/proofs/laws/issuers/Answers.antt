use Rattle.sig_verify.proofs.IssuerVerdicts.{issued_told}
use Rattle.sig_verify.proofs.laws.issuers.Goals as goal

pub returns : goal.returns
returns c k policy trusted d offline checked said = issued_told k policy trusted d offline checked said
