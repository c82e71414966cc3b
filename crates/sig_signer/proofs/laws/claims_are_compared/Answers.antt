use Rattle.sig_signer.proofs.ComparedLaws.{as_compared}
use Rattle.sig_signer.proofs.laws.claims_are_compared.Goals as goal

pub returns : goal.returns
returns c = as_compared
