-- What `questions witness` writes: every signature that the reply of `witness` can depend on.
use Rattle.std.specs.Prelude.{◌≡◌, ◌⊎◌, ◌↔◌, ℕ, Bool, if◌then◌else◌, List, [], ◌∷◌, ◌++◌, map, Option, Some, None}
use Rattle.std.specs.Option.{option_map}
use Rattle.sig_base.specs.ByText.{text_lookup}
use Rattle.sig_base.specs.Checker.{accepted}
use Rattle.sig_base.specs.declared.checker.AcceptedRow.{AcceptedRow}
use Rattle.sig_key.specs.Key.{key_info, key_scheme}
use Rattle.sig_key.specs.declared.verification_key.CosignVerificationKey.{CosignVerificationKey}
use Rattle.sig_rekor.specs.NoteText.{note_text}
use Rattle.sig_rekor.specs.declared.checkpoint.CheckpointSignature.{CheckpointSignature}
use Rattle.sig_rekor.specs.declared.checkpoint.SignedCheckpoint.{SignedCheckpoint}
use Rattle.sig_reply.specs.NoteRow.{note_row}
use Rattle.sig_reply.specs.Reply.{IsListingOf, listed, no_request}
use Rattle.sig_reply.specs.RowsText.{FitsBeside, IsDocumentOf, IsReadBack, rows_text}
use Rattle.sig_reply.specs.declared.reply.Reply.{Reply}
use Rattle.sig_witness.specs.KeptLogs.{log_key}
use Rattle.sig_witness.specs.Updates.{Update}
use Rattle.sig_witness_command.specs.Reply.{IsReadAs, IsUnread}
use Rattle.sig_witness_command.specs.Start.{Logs}
use Rattle.sig_witness_command.specs.Walk.{AreUpdates}
use Rattle.sig_witness_command.specs.declared.request.UpdateText.{UpdateText}
use Rattle.sig_witness_command.specs.declared.request.WitnessRequest.{WitnessRequest}

-- the row that says that this key signed the note of this text
abbrev pub key_row : CosignVerificationKey → List ℕ → List ℕ → AcceptedRow
key_row key note signature = note_row (key_scheme key) (key_info key) note signature

-- each signature of a checkpoint over its note, under this key, in order
abbrev pub signature_row : CosignVerificationKey → SignedCheckpoint → CheckpointSignature → AcceptedRow
signature_row key checkpoint signature = key_row key (note_text checkpoint.note) signature.raw

abbrev pub note_rows : CosignVerificationKey → SignedCheckpoint → List AcceptedRow
note_rows key checkpoint = map (signature_row key checkpoint) checkpoint.signatures

-- the same under the key of its origin; nothing if that is not kept
abbrev pub rows_under : Option CosignVerificationKey → SignedCheckpoint → List AcceptedRow
rows_under None checkpoint = []
rows_under (Some key) checkpoint = note_rows key checkpoint

abbrev pub checkpoint_rows : Logs → SignedCheckpoint → List AcceptedRow
checkpoint_rows logs checkpoint = rows_under (option_map log_key (text_lookup checkpoint.note.origin logs)) checkpoint

-- the signatures of the updates, in order
abbrev pub update_rows : Logs → List Update → List AcceptedRow
update_rows logs [] = []
update_rows logs (update ∷ later) = checkpoint_rows logs update.checkpoint ++ update_rows logs later

-- whether a row is among these
abbrev pub has_row : List AcceptedRow → AcceptedRow → Bool
has_row rows row = accepted rows row.operation row.scheme row.key row.message row.signature

-- rows after others, each once: those that are not among the ones before them
abbrev pub with_row : List AcceptedRow → AcceptedRow → List AcceptedRow
with_row rows row = if has_row rows row then rows else rows ++ row ∷ []

abbrev pub each_once_after : List AcceptedRow → List AcceptedRow → List AcceptedRow
each_once_after before [] = before
each_once_after before (row ∷ later) = each_once_after (with_row before row) later

-- the signatures that are asked for, each once, in the order in which they come first
abbrev pub witness_rows : Logs → List Update → List AcceptedRow
witness_rows logs updates = each_once_after [] (update_rows logs updates)

-- the text is this request, which starts from these logs, and these are its updates
pub record IsAskedOf (text : List ℕ) (request : WitnessRequest) (start : Logs) (updates : List Update) : Type 0 where
  pub is : IsReadAs text request start
  pub are : AreUpdates request.updates updates

-- a text is a request that starts from some logs, and the list of its signatures fits beside it
pub record HasQuestions (text : List ℕ) : Type 0 where
  pub request : WitnessRequest
  pub start : Logs
  pub updates : List Update
  pub of : IsAskedOf text request start updates
  pub fits : FitsBeside text (witness_rows start updates)

-- the list does not fit beside it
pub record HasNoRoom (text : List ℕ) : Type 0 where
  pub request : WitnessRequest
  pub start : Logs
  pub updates : List Update
  pub of : IsAskedOf text request start updates
  pub past : ¬ FitsBeside text (witness_rows start updates)

-- the text is not a request that starts from some logs, or its list has no room beside it
abbrev pub IsUnasked : List ℕ → Type 0
IsUnasked text = IsUnread text ⊎ HasNoRoom text

-- The reply of `questions witness`: the list of the signatures, which is read back as them, with status 0 if and only
-- if the text is a request that starts from some logs and the list fits beside it; else `refused request`.
pub record IsWitnessQuestionsReply (text : List ℕ) (reply : Reply) : Type 0 where
  pub decided : HasQuestions text ⊎ IsUnasked text
  pub succeeds : (reply.status ≡ 0) ↔ HasQuestions text
  pub lists : (request : WitnessRequest) (start : Logs) (updates : List Update)
      → IsAskedOf text request start updates → HasQuestions text
      → IsReadBack (witness_rows start updates) × (reply ≡ listed (rows_text (witness_rows start updates)))
  pub refused : IsUnasked text → reply ≡ no_request

-- for private clauses: the document of the signatures of these updates
abbrev pub IsNotesDocument : ℕ → Logs → List UpdateText → Option (List ℕ) → Type 0
IsNotesDocument most logs texts found =
    (updates : List Update) × AreUpdates texts updates × IsDocumentOf most (witness_rows logs updates) found

-- for private clauses: the reply to a request of this text that starts from these logs
abbrev pub IsNotesReply : List ℕ → WitnessRequest → Logs → Reply → Type 0
IsNotesReply text request start reply =
    (updates : List Update) × AreUpdates request.updates updates
    × IsListingOf text (witness_rows start updates) reply
