use Rattle.sig_dsse.proofs.Clauses.{read-found, read-only, read-refused}
use Rattle.sig_dsse.proofs.statement.InTotoStatementV1.from_json.Goals as goal

pub returns-clause-found : goal.returns-clause-found
returns-clause-found c = read-found c.args.bytes.now c.read_statement.result c.read_statement.ensures

pub returns-clause-only : goal.returns-clause-only
returns-clause-only c = read-only c.args.bytes.now c.read_statement.result c.read_statement.ensures

pub returns-clause-refused : goal.returns-clause-refused
returns-clause-refused c = read-refused c.args.bytes.now c.read_statement.result c.read_statement.ensures
