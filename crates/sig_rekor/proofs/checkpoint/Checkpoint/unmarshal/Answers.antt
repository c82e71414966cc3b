-- The reader meets the grammar both ways.
use Rattle.sig_rekor.specs.NoteText.{IsNote, note_of}
use Rattle.sig_rekor.proofs.Steps.{reads-found, reads-only}
use Rattle.sig_rekor.proofs.NoteLaws.{note-found, note-only}
use Rattle.sig_rekor.proofs.checkpoint.Checkpoint.unmarshal.Goals as goal

pub returns-clause-found : goal.returns-clause-found
returns-clause-found c =
    reads-found (IsNote c.args.s.now) c.read_note.result (note_of c.args.s.now) c.read_note.ensures
    (note-found c.args.s.now)

pub returns-clause-only : goal.returns-clause-only
returns-clause-only c =
    λ x is. reads-only c.read_note.result (note_of c.args.s.now) x c.read_note.ensures (note-only c.args.s.now x is)
