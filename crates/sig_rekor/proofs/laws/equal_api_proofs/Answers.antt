use Rattle.sig_base.proofs.Decisions.{decides_result}
use Rattle.sig_rekor.proofs.Equality.{api_proof_eq-tells}
use Rattle.sig_rekor.proofs.laws.equal_api_proofs.Goals as goal

pub returns : goal.returns
returns c = decides_result c.eq.result _ c.eq.ensures (api_proof_eq-tells c.args.one.now c.args.other.now)
