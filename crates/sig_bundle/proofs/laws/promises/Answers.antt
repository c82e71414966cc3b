use Rattle.sig_bundle.proofs.PromiseLaws.{exact-promise, wide-promise}
use Rattle.sig_bundle.proofs.laws.promises.Goals as goal

pub returns-clause-text : goal.returns-clause-text
returns-clause-text c = exact-promise

pub returns-clause-too_large : goal.returns-clause-too_large
returns-clause-too_large c = wide-promise
