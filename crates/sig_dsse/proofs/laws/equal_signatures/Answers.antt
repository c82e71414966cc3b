use Rattle.sig_base.proofs.Decisions.{decides_result}
use Rattle.sig_dsse.specs.SignatureEqualityProofs.{signature_eq-tells}
use Rattle.sig_dsse.proofs.laws.equal_signatures.Goals as goal

pub returns : goal.returns
returns c = decides_result c.eq.result _ c.eq.ensures (signature_eq-tells c.args.one.now c.args.other.now)
