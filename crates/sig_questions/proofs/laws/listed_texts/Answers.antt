use Rattle.sig_questions.proofs.ListedQuestions.{listed_told}
use Rattle.sig_questions.proofs.laws.listed_texts.Goals as goal

pub returns : goal.returns
returns c =
    listed_told c.certificates.ensures
