use Rattle.sig_token.proofs.Tokens.{clause-found, clause-only, clause-refused}
use Rattle.sig_token.proofs.token.IdentityToken.try_from_text.Goals as goal

pub returns-clause-found : goal.returns-clause-found
returns-clause-found c = clause-found c.args.value.now c.read_token.result c.read_token.ensures

pub returns-clause-only : goal.returns-clause-only
returns-clause-only c = clause-only c.args.value.now c.read_token.result c.read_token.ensures

pub returns-clause-refused : goal.returns-clause-refused
returns-clause-refused c = clause-refused c.args.value.now c.read_token.result c.read_token.ensures
