use Rattle.sig_merkle.proofs.ConsistencyAnswers as answers
use Rattle.sig_merkle.proofs.laws.consistency_answers.Goals as goal

pub returns : goal.returns
returns c = answers.consistency_answers
