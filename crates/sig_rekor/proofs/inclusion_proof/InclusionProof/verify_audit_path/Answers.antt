-- The path leads to the root if and only if the entry is included.
use Rattle.sig_rekor.proofs.VerifyLaws.{path_ok}
use Rattle.sig_rekor.proofs.inclusion_proof.InclusionProof.verify_audit_path.Goals as goal

pub returns-clause-ok : goal.returns-clause-ok
returns-clause-ok c = path_ok c.args.entry.now c.args.self.now c.check_path.result c.check_path.ensures
