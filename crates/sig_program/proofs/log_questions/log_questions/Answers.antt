-- Nothing else matters.
use Rattle.sig_program.proofs.SufficientLogRows.{log_questions_suffice}
use Rattle.sig_program.proofs.log_questions.log_questions.Goals as goal

pub returns-clause-suffice : goal.returns-clause-suffice
returns-clause-suffice c = log_questions_suffice
