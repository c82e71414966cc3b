use Rattle.sig_rekor.proofs.WhiteSpace.{white-points, blank-texts}
use Rattle.sig_rekor.proofs.laws.white_space.Goals as goal

pub returns : goal.returns
returns c = record { points = white-points; blank = blank-texts }
