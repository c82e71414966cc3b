use Rattle.sig_rekor_models.proofs.EntryEquality.{entry_law}
use Rattle.sig_rekor_models.proofs.laws.equal_entries.Goals as goal

pub returns : goal.returns
returns c = entry_law c.args.one.now c.args.other.now c.eq.result c.eq.ensures
