use Rattle.sig_verify.proofs.EntryCauses.{entry_errors_have_their_cause}
use Rattle.sig_verify.proofs.laws.causes_of_entry_errors.Goals as goal

pub returns : goal.returns
returns c =
    entry_errors_have_their_cause (record { proofs = c.proofs.ensures; faults = c.proof_faults.ensures })
