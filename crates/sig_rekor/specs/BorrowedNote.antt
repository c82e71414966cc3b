-- A note that is borrowed from its text, as the note that it is.
use Rattle.sig_rekor.specs.declared.checkpoint.Checkpoint.{Checkpoint}
use Rattle.sig_rekor.specs.declared.note.Note.TheInside.{Inside}
use Rattle.sig_rekor.specs.TextCuts.{parts_between}
use Rattle.sig_rekor.specs.NoteText.{newline, contents_of}

-- the note: what it borrows, and the contents of the lines after the hash
abbrev pub note_in : Inside → Checkpoint
note_in note = record {
  origin = note.origin.now;
  size = note.size;
  hash = note.hash;
  other_content = contents_of (parts_between newline note.others.now);
}
