use Rattle.sig_certificate.proofs.FrontNames.{front_names_none, front_names_some}
use Rattle.sig_certificate.proofs.general_names.step.Goals as goal

pub returns-in-None : goal.returns-in-None
returns-in-None c = front_names_none c.args.rest.now c.in-None.ensures

pub returns-in-Some : goal.returns-in-Some
returns-in-Some c = front_names_some c.args.rest.now _ c.in-Some.ensures
