use Rattle.sig_questions.proofs.Fronts.{refusals_for_all}
use Rattle.sig_questions.proofs.laws.refusals.Goals as goal

pub returns : goal.returns
returns c = refusals_for_all
