use Rattle.sig_checked_bundle.proofs.RefusalCauses.{refusals_have_their_cause}
use Rattle.sig_checked_bundle.proofs.laws.causes_of_refusals.Goals as goal

pub returns : goal.returns
returns c = refusals_have_their_cause
