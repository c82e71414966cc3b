use Rattle.sig_dsse.specs.Seen.{seen}
use Rattle.sig_dsse.proofs.Clauses.{first-found, first-missing}
use Rattle.sig_dsse.proofs.statement.InTotoStatementV1.subject_sha256_digest.Goals as goal

pub returns-clause-found : goal.returns-clause-found
returns-clause-found c = first-found (seen c.args.self.now) c.first_sha256.result c.first_sha256.ensures

pub returns-clause-missing : goal.returns-clause-missing
returns-clause-missing c = first-missing (seen c.args.self.now) c.first_sha256.result c.first_sha256.ensures
