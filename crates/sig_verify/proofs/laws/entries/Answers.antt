use Rattle.sig_verify.proofs.EntryLaws.{entry_kept, entry_told}
use Rattle.sig_verify.proofs.laws.entries.Goals as goal

pub returns-clause-links : goal.returns-clause-links
returns-clause-links c spki keys e bytes =
    entry_told (record { proofs = c.proofs.ensures; faults = c.proof_faults.ensures }) spki keys e bytes

pub returns-clause-kept : goal.returns-clause-kept
returns-clause-kept c spki keys e offline answer =
    entry_kept (record { proofs = c.proofs.ensures; faults = c.proof_faults.ensures }) spki keys e offline answer
