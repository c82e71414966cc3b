use Rattle.sig_base.proofs.Decisions.{decides_result}
use Rattle.sig_base.proofs.PartEquality.{decides_texts}
use Rattle.sig_merkle.proofs.tree.is_repeated.Goals as goal

pub returns : goal.returns
returns c = decides_result _ _ c.eq.ensures (decides_texts _ _)
