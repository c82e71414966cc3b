use Rattle.sig_dsse.proofs.NamedDigests.{takes_the_named, finds_none}
use Rattle.sig_dsse.proofs.laws.taken_digests.Goals as goal

pub returns : goal.returns
returns c = record { taken = takes_the_named; none = finds_none }
