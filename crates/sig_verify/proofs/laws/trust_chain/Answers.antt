use Rattle.sig_verify.proofs.ChainLaws.{all_links_are_the_trust_chain}
use Rattle.sig_verify.proofs.laws.trust_chain.Goals as goal

pub returns : goal.returns
returns c = all_links_are_the_trust_chain
