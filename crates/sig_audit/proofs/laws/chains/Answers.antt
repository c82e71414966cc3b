use Rattle.sig_audit.proofs.ChainLaws.{chain-one, chain-push, chain-each, chain-sizes}
use Rattle.sig_audit.proofs.laws.chains.Goals as goal

pub returns : goal.returns
returns c = record { one = chain-one; push = chain-push; each = chain-each; sizes = chain-sizes }
