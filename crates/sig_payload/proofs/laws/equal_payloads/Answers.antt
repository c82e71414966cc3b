use Rattle.sig_base.proofs.Decisions.{decides_result}
use Rattle.sig_payload.proofs.Equality.{payload_eq-tells}
use Rattle.sig_payload.proofs.laws.equal_payloads.Goals as goal

pub returns : goal.returns
returns c = decides_result c.eq.result _ c.eq.ensures (payload_eq-tells c.args.one.now c.args.other.now)
