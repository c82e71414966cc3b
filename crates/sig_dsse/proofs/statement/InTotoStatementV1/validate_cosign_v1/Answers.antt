use Rattle.sig_dsse.specs.Seen.{seen}
use Rattle.sig_dsse.proofs.Clauses.{cosign-accepted, cosign-refused}
use Rattle.sig_dsse.proofs.statement.InTotoStatementV1.validate_cosign_v1.Goals as goal

pub returns-clause-accepted : goal.returns-clause-accepted
returns-clause-accepted c = cosign-accepted (seen c.args.self.now) c.check_cosign.result c.check_cosign.ensures

pub returns-clause-refused : goal.returns-clause-refused
returns-clause-refused c = cosign-refused (seen c.args.self.now) c.check_cosign.result c.check_cosign.ensures
