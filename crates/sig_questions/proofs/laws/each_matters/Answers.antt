use Rattle.sig_questions.proofs.NecessaryQuestions.{questions_matter}
use Rattle.sig_questions.proofs.laws.each_matters.Goals as goal

pub returns : goal.returns
returns c = questions_matter c.certificates.ensures
