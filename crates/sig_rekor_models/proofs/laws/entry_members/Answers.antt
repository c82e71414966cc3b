use Rattle.sig_rekor_models.proofs.EntryMembers.{entries_are_read}
use Rattle.sig_rekor_models.proofs.WrittenMembers.{bodies_are_written, hashedrekords_are_written}
use Rattle.sig_rekor_models.proofs.laws.entry_members.Goals as goal

pub returns : goal.returns
returns c =
    record { read = entries_are_read; bodies = bodies_are_written; hashedrekords = hashedrekords_are_written }
