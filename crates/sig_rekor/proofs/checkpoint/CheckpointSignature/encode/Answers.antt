-- A written signature reads back.
use Rattle.sig_rekor.proofs.ReadBackLaws.{signature_back}
use Rattle.sig_rekor.proofs.checkpoint.CheckpointSignature.encode.Goals as goal

pub returns-clause-reads_back : goal.returns-clause-reads_back
returns-clause-reads_back c =
    λ name. signature_back c.args.self.now c.write.result name c.write.ensures.text c.write.ensures.value
