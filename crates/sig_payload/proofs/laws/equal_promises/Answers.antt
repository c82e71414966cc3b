use Rattle.sig_base.proofs.Decisions.{decides_result}
use Rattle.sig_payload.proofs.Equality.{bundle_eq-tells}
use Rattle.sig_payload.proofs.laws.equal_promises.Goals as goal

pub returns : goal.returns
returns c = decides_result c.eq.result _ c.eq.ensures (bundle_eq-tells c.args.one.now c.args.other.now)
