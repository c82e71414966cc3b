use Rattle.sig_rekor_models.proofs.Equality.{api_head_law}
use Rattle.sig_rekor_models.proofs.laws.equal_api_heads.Goals as goal

pub returns : goal.returns
returns c = api_head_law c.args.one.now c.args.other.now c.eq.result c.eq.ensures
