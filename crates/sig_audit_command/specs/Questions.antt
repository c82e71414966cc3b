-- What `questions audit` writes: every signature that an audit can depend on.
use Rattle.std.specs.Prelude.{◌≡◌, ◌⊎◌, ◌<◌, ℕ, List, [], ◌∷◌, ◌++◌, map, length, Option, Some, None}
use Rattle.sig_audit.specs.declared.heads.AuditHead.{AuditHead}
use Rattle.sig_base.specs.Scheme.{scheme_of}
use Rattle.sig_base.specs.declared.checker.AcceptedRow.{AcceptedRow}
use Rattle.sig_json.specs.Data.{Data}
use Rattle.sig_rekor.specs.NoteText.{note_text}
use Rattle.sig_rekor.specs.declared.checkpoint.CheckpointSignature.{CheckpointSignature}
use Rattle.sig_rekor.specs.declared.checkpoint.SignedCheckpoint.{SignedCheckpoint}
use Rattle.sig_reply.specs.NoteRow.{note_row}
use Rattle.sig_reply.specs.Reply.{listed}
use Rattle.sig_reply.specs.RowsText.{FitsBeside, IsListOf, IsReadBack, rows_text}
use Rattle.sig_reply.specs.declared.reply.Reply.{Reply}
use Rattle.sig_request.specs.declared.audit_request.AuditRequest.{AuditRequest}
use Rattle.sig_audit_command.specs.Link.{IsReadAs, IsUnread}
use Rattle.sig_audit_command.specs.Reply.{IsDecided}
use Rattle.sig_audit_command.specs.declared.link.AuditLink.{AuditLink}
use Rattle.sig_audit_command.specs.declared.link.AuditLink.TheVariants.{Request}

-- the row that says that the log's key signed the note
abbrev pub head_row : AuditRequest → SignedCheckpoint → CheckpointSignature → AcceptedRow
head_row request checkpoint signature =
    note_row (scheme_of request.scheme) request.key (note_text checkpoint.note) signature.raw

-- each signature of a checkpoint over its note, under the log's scheme and key, in order
abbrev pub note_rows : AuditRequest → SignedCheckpoint → List AcceptedRow
note_rows request checkpoint = map (head_row request checkpoint) checkpoint.signatures

-- the signatures of each head, in order
abbrev pub audit_rows : AuditRequest → List AuditHead → List AcceptedRow
audit_rows request [] = []
audit_rows request (head ∷ later) = note_rows request head.checkpoint ++ audit_rows request later

-- every link of `questions audit` holds of a text: it is a request of `audit`, its heads are checkpoints, and the list
-- of their signatures and the text fit one request
pub record HasQuestions (text : List ℕ) : Type 0 where
  pub request : AuditRequest
  pub heads : List AuditHead
  pub is : IsReadAs text request heads
  pub fits : FitsBeside text (audit_rows request heads)

-- the heads of a text are read, and the list of their signatures does not fit beside it
pub record HasNoRoom (text : List ℕ) : Type 0 where
  pub request : AuditRequest
  pub heads : List AuditHead
  pub is : IsReadAs text request heads
  pub past : ¬ FitsBeside text (audit_rows request heads)

-- the link is the first that does not hold of a text: as for `audit`, or the list has no room beside it
abbrev pub IsFirstUnasked : List ℕ → AuditLink → Type 0
IsFirstUnasked text link = IsUnread text link ⊎ ((link ≡ Request) × HasNoRoom text)

-- the reply lists the signatures of the heads of the one request that a text is, and is read back as them
abbrev pub ListsQuestions : List ℕ → Reply → Type 0
ListsQuestions text reply =
    (request : AuditRequest) (heads : List AuditHead) → IsReadAs text request heads
    → IsReadBack (audit_rows request heads) × (reply ≡ listed (rows_text (audit_rows request heads)))

-- the reply of `questions audit`
abbrev pub IsAuditQuestionsReply : List ℕ → Reply → Type 0
IsAuditQuestionsReply text = IsDecided (HasQuestions text) (IsFirstUnasked text) (ListsQuestions text)

-- for private clauses: a list of these signatures, and the number of its bytes; `None` if their document has more than
-- `most` bytes
abbrev pub HasAdded : ℕ → List AcceptedRow → Data → Option ℕ → Type 0
HasAdded most rows list None = most < length (rows_text rows)
HasAdded most rows list (Some size) = IsListOf most rows list size
