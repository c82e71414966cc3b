use Rattle.sig_checked_bundle.proofs.LoggedBodies.{checked_artifacts, checked_envelopes}
use Rattle.sig_checked_bundle.proofs.laws.log_bodies.Goals as goal

pub returns-clause-artifacts : goal.returns-clause-artifacts
returns-clause-artifacts c = checked_artifacts

pub returns-clause-envelopes : goal.returns-clause-envelopes
returns-clause-envelopes c = checked_envelopes
