use Rattle.sig_bundle.proofs.ProofLaws.{answers_only}
use Rattle.sig_bundle.proofs.material.ProofFields.to_proof.Goals as goal

pub returns-clause-exact : goal.returns-clause-exact
returns-clause-exact c = answers_only c.args.self.now c.read_fields.result c.read_fields.ensures
