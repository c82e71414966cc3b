use Rattle.sig_rekor_models.proofs.EntryEquality.{body_law}
use Rattle.sig_rekor_models.proofs.laws.equal_bodies.Goals as goal

pub returns : goal.returns
returns c = body_law c.args.one.now c.args.other.now c.eq.result c.eq.ensures
