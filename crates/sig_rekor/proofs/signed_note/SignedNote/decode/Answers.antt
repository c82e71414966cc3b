-- The reader meets the grammar both ways.
use Rattle.sig_rekor.specs.CheckpointText.{IsCheckpoint, checkpoint_of}
use Rattle.sig_rekor.proofs.Steps.{reads-found, reads-only}
use Rattle.sig_rekor.proofs.CheckpointLaws.{checkpoint-found, checkpoint-only}
use Rattle.sig_rekor.proofs.signed_note.SignedNote.decode.Goals as goal

pub returns-clause-found : goal.returns-clause-found
returns-clause-found c =
    reads-found (IsCheckpoint c.args.s.now) c.read_signed_note.result
    (checkpoint_of c.args.s.now) c.read_signed_note.ensures (checkpoint-found c.args.s.now)

pub returns-clause-only : goal.returns-clause-only
returns-clause-only c =
    λ x is. reads-only c.read_signed_note.result (checkpoint_of c.args.s.now) x c.read_signed_note.ensures
    (checkpoint-only c.args.s.now x is)
