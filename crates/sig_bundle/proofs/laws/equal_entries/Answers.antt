use Rattle.sig_base.proofs.Decisions.{decides_result}
use Rattle.sig_bundle.specs.EntryEqualityProofs.{entry_eq-tells}
use Rattle.sig_bundle.proofs.laws.equal_entries.Goals as goal

pub returns : goal.returns
returns c = decides_result c.eq.result _ c.eq.ensures (entry_eq-tells c.args.one.now c.args.other.now)
