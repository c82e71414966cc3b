use Rattle.sig_questions.proofs.QuestionCounts.{questions_few}
use Rattle.sig_questions.proofs.laws.few.Goals as goal

pub returns : goal.returns
returns c = questions_few
