use Rattle.sig_rekor_models.proofs.Equality.{head_law}
use Rattle.sig_rekor_models.proofs.laws.equal_heads.Goals as goal

pub returns : goal.returns
returns c = head_law c.args.one.now c.args.other.now c.eq.result c.eq.ensures
