use Rattle.sig_base.proofs.Decisions.{decides_result}
use Rattle.sig_payload.proofs.Equality.{artifact_eq-tells}
use Rattle.sig_payload.proofs.laws.equal_artifacts.Goals as goal

pub returns : goal.returns
returns c = decides_result c.eq.result _ c.eq.ensures (artifact_eq-tells c.args.one.now c.args.other.now)
