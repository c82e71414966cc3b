use Rattle.sig_rekor_models.proofs.ProposedEquality.{proposed_law}
use Rattle.sig_rekor_models.proofs.laws.equal_proposed_entries.Goals as goal

pub returns : goal.returns
returns c = proposed_law c.args.one.now c.args.other.now c.eq.result c.eq.ensures
