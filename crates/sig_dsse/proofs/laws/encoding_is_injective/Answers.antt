use Rattle.sig_dsse.proofs.Encodings.{pae-injective}
use Rattle.sig_dsse.proofs.laws.encoding_is_injective.Goals as goal

pub returns : goal.returns
returns c = pae-injective
