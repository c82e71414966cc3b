use Rattle.sig_verify.proofs.ContentVerdicts.{content_told, time_told}
use Rattle.sig_verify.proofs.laws.contents.Goals as goal

pub returns-clause-signed : goal.returns-clause-signed
returns-clause-signed c k policy trust d offline checked fits = content_told k policy trust d offline checked fits

pub returns-clause-timely : goal.returns-clause-timely
returns-clause-timely c k policy trust d offline checked = time_told k policy trust d offline checked
