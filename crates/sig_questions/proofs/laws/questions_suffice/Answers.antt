use Rattle.sig_questions.proofs.SufficientLists.{questions_suffice}
use Rattle.sig_questions.proofs.laws.questions_suffice.Goals as goal

pub returns : goal.returns
returns c = questions_suffice c.certificates.ensures
