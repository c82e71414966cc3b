use Rattle.sig_dsse.proofs.Clauses.{payload-none, payload-refused, payload-taken}
use Rattle.sig_dsse.proofs.payload.payload_digests.Goals as goal

pub returns-clause-taken : goal.returns-clause-taken
returns-clause-taken c = payload-taken c.args.payload.now c.take.result c.take.ensures

pub returns-clause-no_statement : goal.returns-clause-no_statement
returns-clause-no_statement c = payload-none c.args.payload.now c.take.result c.take.ensures

pub returns-clause-refused : goal.returns-clause-refused
returns-clause-refused c = payload-refused c.args.payload.now c.take.result c.take.ensures
