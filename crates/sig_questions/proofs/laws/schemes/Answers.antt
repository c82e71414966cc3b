use Rattle.sig_questions.proofs.Schemes.{questions_schemed}
use Rattle.sig_questions.proofs.laws.schemes.Goals as goal

pub returns : goal.returns
returns c = questions_schemed
