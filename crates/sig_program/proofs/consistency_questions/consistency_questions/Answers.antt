-- Nothing else matters.
use Rattle.sig_program.proofs.SufficientConsistencyRows.{consistency_questions_suffice}
use Rattle.sig_program.proofs.consistency_questions.consistency_questions.Goals as goal

pub returns-clause-suffice : goal.returns-clause-suffice
returns-clause-suffice c = consistency_questions_suffice
