use Rattle.sig_base.proofs.Decisions.{decides_result}
use Rattle.sig_signer.proofs.Equality.{subject_eq-tells}
use Rattle.sig_signer.proofs.laws.equal_subjects.Goals as goal

pub returns : goal.returns
returns c = decides_result c.eq.result _ c.eq.ensures (subject_eq-tells c.args.one.now c.args.other.now)
