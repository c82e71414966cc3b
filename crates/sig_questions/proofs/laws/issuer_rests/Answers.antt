use Rattle.sig_questions.proofs.ShorterPaths.{issuer_rests}
use Rattle.sig_questions.proofs.laws.issuer_rests.Goals as goal

pub returns : goal.returns
returns c = issuer_rests c.certificates.ensures
