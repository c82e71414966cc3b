-- A signed checkpoint, both ways: a note, an empty line, and signatures between empty lines.
use Rattle.std.specs.Prelude.{ℕ, Bool, not, List, ◌++◌, filter, Option, Some, None, Result, Ok, Err}
use Rattle.std.specs.List.{AllZip, join_by}
use Rattle.sig_base.specs.ResultSteps.{◌>>=◌}
use Rattle.sig_base.specs.declared.fault.CheckpointFault.{CheckpointFault}
use Rattle.sig_base.specs.declared.fault.CheckpointFault.TheVariants.{Format}
use Rattle.sig_rekor.specs.declared.checkpoint.SignedCheckpoint.{SignedCheckpoint}
use Rattle.sig_rekor.specs.declared.checkpoint.CheckpointSignature.{CheckpointSignature}
use Rattle.sig_rekor.specs.TextCuts.{IsTrimmed, IsCut, IsParts, trimmed, cut_at, parts_between}
use Rattle.sig_rekor.specs.Reading.{read_each}
use Rattle.sig_rekor.specs.NoteText.{newline, is_blank, IsNote, note_of, note_text}
use Rattle.sig_rekor.specs.SignatureText.{IsSignature, signature_of, signature_text}

-- U+0022, `"`
abbrev pub quotation_mark : ℕ
quotation_mark = 34

abbrev pub empty_line : List ℕ
empty_line = newline ++ newline

-- more than white space
abbrev pub is_written : List ℕ → Bool
is_written piece = not (is_blank piece)

-- *Checkpoint grammar*: with quotation marks trimmed, the text is a note text, the first empty line, and a rest.
-- The pieces of the rest between empty lines that are not only white space are the signatures one by one
pub record IsCheckpoint (text : List ℕ) (checkpoint : SignedCheckpoint) : Type 0 where
  pub body : List ℕ
  pub note_part : List ℕ
  pub rest : List ℕ
  pub pieces : List (List ℕ)
  pub quotes : IsTrimmed quotation_mark text body
  pub split : IsCut empty_line body note_part rest
  pub between : IsParts empty_line rest pieces
  pub signatures : AllZip IsSignature (filter is_written pieces) checkpoint.signatures
  pub note : IsNote note_part checkpoint.note

-- the signatures of the pieces, from the left
unfoldable pub signatures_by : List (List ℕ) → Result (List CheckpointSignature) CheckpointFault
signatures_by pieces = read_each signature_of (filter is_written pieces)

-- the same after those that were read before
abbrev pub signatures_on : List CheckpointSignature → List (List ℕ) → Result (List CheckpointSignature) CheckpointFault
signatures_on before pieces = signatures_by pieces >>= λ signatures. Ok (before ++ signatures)

-- the checkpoint of a text that was cut: the signatures, then the note
abbrev pub checkpoint_by : Option (List ℕ × List ℕ) → Result SignedCheckpoint CheckpointFault
checkpoint_by None = Err Format
checkpoint_by (Some cut) = do
  signatures ← signatures_by (parts_between empty_line cut.1)
  note ← note_of cut.0
  Ok (record { note = note; signatures = signatures })

-- the checkpoint that a text means, or the first rule that is broken
unfoldable pub checkpoint_of : List ℕ → Result SignedCheckpoint CheckpointFault
checkpoint_of text = checkpoint_by (cut_at empty_line (trimmed quotation_mark text))

-- how a checkpoint is written: the note text, two newlines, and the signatures with a newline between each two
unfoldable pub checkpoint_text : SignedCheckpoint → List ℕ
checkpoint_text checkpoint =
    note_text checkpoint.note ++ (empty_line ++ join_by signature_text newline checkpoint.signatures)
