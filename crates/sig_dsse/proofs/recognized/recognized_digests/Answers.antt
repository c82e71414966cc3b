use Rattle.sig_dsse.specs.Seen.{seen}
use Rattle.sig_dsse.proofs.Clauses.{recognized-refused, recognized-taken}
use Rattle.sig_dsse.proofs.recognized.recognized_digests.Goals as goal

pub returns-clause-taken : goal.returns-clause-taken
returns-clause-taken c = recognized-taken (seen c.args.statement.now) c.recognize.result c.recognize.ensures

pub returns-clause-refused : goal.returns-clause-refused
returns-clause-refused c = recognized-refused (seen c.args.statement.now) c.recognize.result c.recognize.ensures
