-- A list of signatures as it is made, for private clauses.
use Rattle.std.specs.Prelude.{◌≡◌, ◌⊎◌, ◌↔◌, ℕ, ◌+◌, ◌<◌, ◌≤◌, ◌^◌, Bool, true, false, List, [], ◌++◌, codes, decimal, length, Contains, IsSome, Some, None}
use Rattle.std.specs.Option.{option_map}
use Rattle.sig_base.specs.Base64.{base64_bytes, base64_text}
use Rattle.sig_base.specs.ByText.{text_lookup, text_put}
use Rattle.sig_base.specs.declared.checker.AcceptedRow.{AcceptedRow}
use Rattle.sig_json.specs.Find.{as_array}
use Rattle.sig_json.specs.Tree.{document_tree}
use Rattle.sig_key.specs.declared.verification_key.CosignVerificationKey.{CosignVerificationKey}
use Rattle.sig_rekor.specs.NoteText.{note_text}
use Rattle.sig_rekor.specs.declared.checkpoint.SignedCheckpoint.{SignedCheckpoint}
use Rattle.sig_reply.specs.RowsText.{AddsRow, IsListOf, IsRowReadBack, rows_text, rows_tree}
use Rattle.sig_witness.specs.KeptLogs.{log_key}
use Rattle.sig_witness_command.specs.Outcome.{HasReading}
use Rattle.sig_witness_command.specs.Questions.{checkpoint_rows, each_once_after, key_row}
use Rattle.sig_witness_command.specs.Start.{Logs}
use Rattle.sig_rekor.specs.CheckpointText.{IsCheckpoint}
use Rattle.sig_witness_command.specs.declared.request.UpdateText.{UpdateText}
use Rattle.sig_witness_command.specs.declared.row_list.RowList.{RowList}

-- base64 of the bytes is read as them
abbrev pub IsCoded : List ℕ → Type 0
IsCoded bytes = base64_bytes (base64_text bytes) ≡ Some bytes

-- a number and a signature in base64
abbrev pub pair_name : ℕ → List ℕ → List ℕ
pair_name number code = decimal number ++ (codes " " ++ code)

-- what a signature over the note of a number is found by
abbrev pub pair_of : ℕ → List ℕ → List ℕ
pair_of number signature = pair_name number (base64_text signature)

-- the list without signatures
pub record IsEmptyList (most : ℕ) (rows : RowList) : Type 0 where
  pub list : document_tree rows.list ≡ rows_tree []
  pub size : rows.size ≡ 0
  pub most_is : rows.most ≡ most
  pub notes : rows.notes ≡ []
  pub pairs : rows.pairs ≡ []

-- it is a list, and has room for its closing bracket
abbrev pub HasRoom : RowList → Type 0
HasRoom rows = IsSome (as_array (document_tree rows.list)) × (rows.size < rows.most)

-- the same except for the numbers of notes
pub record IsSameList (old new : RowList) : Type 0 where
  pub list : new.list ≡ old.list
  pub size : new.size ≡ old.size
  pub most : new.most ≡ old.most
  pub pairs : new.pairs ≡ old.pairs

-- a note was given its number, or this one
pub record IsNumbered (old : RowList) (note : List ℕ) (number given : ℕ) (new : RowList) : Type 0 where
  pub same : IsSameList old new
  pub cases : ((text_lookup note old.notes ≡ Some given) × (new.notes ≡ old.notes))
      ⊎ ((text_lookup note old.notes ≡ None) × (given ≡ number) × (new.notes ≡ text_put note number old.notes))

-- a signature is not listed, and its row was added, or has no room
pub record IsNewRow (row : AcceptedRow) (number : ℕ) (signature : List ℕ) (old new : RowList) : Type 0 where
  pub unlisted : text_lookup (pair_of number signature) old.pairs ≡ None
  pub adds : AddsRow old.most (document_tree old.list) (document_tree new.list) old.size row (Some new.size)
  pub back : IsRowReadBack row
  pub most : new.most ≡ old.most
  pub notes : new.notes ≡ old.notes
  pub pairs : new.pairs ≡ text_put (pair_of number signature) number old.pairs

pub record IsPastRow (row : AcceptedRow) (number : ℕ) (signature : List ℕ) (old new : RowList) : Type 0 where
  pub unlisted : text_lookup (pair_of number signature) old.pairs ≡ None
  pub past : AddsRow old.most (document_tree old.list) (document_tree new.list) old.size row None
  pub most : new.most ≡ old.most

-- whether there was room for a signature: it is listed, or was added
abbrev pub IsPut : AcceptedRow → ℕ → List ℕ → RowList → RowList → Bool → Type 0
IsPut row number signature old new true =
    (IsSome (text_lookup (pair_of number signature) old.pairs) × (new ≡ old)) ⊎ IsNewRow row number signature old new
IsPut row number signature old new false = IsPastRow row number signature old new

-- a signature over this note was listed
abbrev pub IsMarked : RowList → List ℕ → List ℕ → Type 0
IsMarked rows note signature =
    (number : ℕ) × (text_lookup note rows.notes ≡ Some number) × IsSome (text_lookup (pair_of number signature) rows.pairs)

-- The list has these rows, of notes whose numbers are below a bound: each note has its own, and a signature under the
-- key of the note's origin is marked if and only if its row is there.
pub record IsListSoFar (logs : Logs) (bound : ℕ) (before : List AcceptedRow) (rows : RowList) : Type 0 where
  pub listed : IsListOf rows.most before (document_tree rows.list) rows.size
  pub small : bound ≤ 2 ^ 64
  pub below : (note : List ℕ) (number : ℕ) → text_lookup note rows.notes ≡ Some number → number < bound
  pub apart : (one other : List ℕ) (number : ℕ) → text_lookup one rows.notes ≡ Some number
      → text_lookup other rows.notes ≡ Some number → one ≡ other
  pub pairs : (number : ℕ) (signature : List ℕ) → number < 2 ^ 64
      → IsSome (text_lookup (pair_of number signature) rows.pairs) → number < bound
  pub marks : (checkpoint : SignedCheckpoint) (key : CosignVerificationKey) (signature : List ℕ) → IsCoded signature
      → option_map log_key (text_lookup checkpoint.note.origin logs) ≡ Some key
      → Contains before (key_row key (note_text checkpoint.note) signature)
      ↔ IsMarked rows (note_text checkpoint.note) signature

abbrev pub IsSomeList : Logs → ℕ → RowList → Type 0
IsSomeList logs bound rows = (before : List AcceptedRow) × IsListSoFar logs bound before rows

-- whether there was room for rows
abbrev pub HasAddedRows : Logs → ℕ → List AcceptedRow → RowList → Bool → Type 0
HasAddedRows logs bound all rows true = IsListSoFar logs bound all rows
HasAddedRows logs bound all rows false = rows.most < length (rows_text all)

-- whether there was room for the signatures of a checkpoint
abbrev pub HasAdded : Logs → ℕ → List AcceptedRow → SignedCheckpoint → RowList → Bool → Type 0
HasAdded logs place before checkpoint rows =
    HasAddedRows logs (place + 1) (each_once_after before (checkpoint_rows logs checkpoint)) rows

-- whether there was room for those of an update, if its text is a checkpoint
abbrev pub HasAddedText : Logs → ℕ → List AcceptedRow → UpdateText → RowList → Bool → Type 0
HasAddedText logs place before text rows added =
    ((¬ HasReading text) × (added ≡ true) × IsListSoFar logs (place + 1) before rows)
    ⊎ ((checkpoint : SignedCheckpoint) × IsCheckpoint text.checkpoint checkpoint
    × HasAdded logs place before checkpoint rows added)
