-- A written checkpoint reads back.
use Rattle.sig_rekor.proofs.ReadBackLaws.{checkpoint_back}
use Rattle.sig_rekor.proofs.checkpoint.SignedCheckpoint.encode.Goals as goal

pub returns-clause-reads_back : goal.returns-clause-reads_back
returns-clause-reads_back c =
    λ is. checkpoint_back c.args.self.now c.write.result is c.write.ensures.text c.write.ensures.note
    c.write.ensures.signatures
