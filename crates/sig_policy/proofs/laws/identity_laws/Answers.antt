use Rattle.sig_policy.proofs.IdentityRefusals.{identity_held, caused, has_cause}
use Rattle.sig_policy.proofs.NamedLaws.{identity_named, name_takes, name_again}
use Rattle.sig_policy.proofs.laws.identity_laws.Goals as goal

pub returns-clause-held : goal.returns-clause-held
returns-clause-held c = identity_held

pub returns-clause-caused : goal.returns-clause-caused
returns-clause-caused c = caused

pub returns-clause-cause : goal.returns-clause-cause
returns-clause-cause c = has_cause

pub returns-clause-named : goal.returns-clause-named
returns-clause-named c = identity_named

pub returns-clause-given : goal.returns-clause-given
returns-clause-given c = λ name identity. (name_takes name identity, name_again name identity)
