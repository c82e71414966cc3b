use Rattle.sig_base.proofs.Decisions.{decides_result}
use Rattle.sig_rekor.proofs.Equality.{note_eq-tells}
use Rattle.sig_rekor.proofs.laws.equal_notes.Goals as goal

pub returns : goal.returns
returns c = decides_result c.eq.result _ c.eq.ensures (note_eq-tells c.args.one.now c.args.other.now)
