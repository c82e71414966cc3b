use Rattle.sig_questions.proofs.ListedQuestions.{one_questions}
use Rattle.sig_questions.proofs.laws.one_list.Goals as goal

pub returns : goal.returns
returns c = one_questions c.certificates.ensures
