use Rattle.sig_der.proofs.StampSeconds.{second_found, second_only}
use Rattle.sig_der.proofs.laws.time_texts.Goals as goal

pub returns : goal.returns
returns c = λ text second. (second_found text second, second_only text second)
