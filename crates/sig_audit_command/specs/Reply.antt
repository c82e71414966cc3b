-- The reply of `audit` to a request.
use Rattle.std.specs.Prelude.{◌≡◌, ◌⊎◌, ◌↔◌, ℕ, List}
use Rattle.sig_audit.specs.Audited.{IsAudited}
use Rattle.sig_audit.specs.Faults.{IsAuditFault}
use Rattle.sig_audit.specs.declared.error.AuditError.{AuditError}
use Rattle.sig_audit.specs.declared.error.AuditError.TheVariants as fault
use Rattle.sig_audit.specs.declared.heads.AuditHead.{AuditHead}
use Rattle.sig_reply.specs.declared.reply.Reply.{Reply}
use Rattle.sig_request.specs.declared.audit_request.AuditRequest.{AuditRequest}
use Rattle.sig_audit_command.specs.Heads.{accepts}
use Rattle.sig_audit_command.specs.Line.{IsAuditedReply}
use Rattle.sig_audit_command.specs.Link.{EveryLinkHolds, IsFirstFailing, IsReadAs, link_refusal}
use Rattle.sig_audit_command.specs.declared.link.AuditLink.{AuditLink}
use Rattle.sig_audit_command.specs.declared.link.AuditLink.TheVariants.{NoteKey, Origin, Consistency, Inclusion}

-- The reply to a text for which these links hold, or this is the first that fails: status 0 if and only if every link
-- holds, and then the reply is of this form; else it shows the first link that fails.
pub record IsDecided (Every : Type 0) (First : AuditLink → Type 0) (Made : Reply → Type 0) (reply : Reply) : Type 0 where
  pub decided : Every ⊎ ((link : AuditLink) × First link)
  pub succeeds : (reply.status ≡ 0) ↔ Every
  pub vouched : Every → Made reply
  pub refused : (link : AuditLink) → First link → reply ≡ link_refusal link

-- the reply to the one request that a text is, with the heads that it has
abbrev pub Succeeds : List ℕ → Reply → Type 0
Succeeds text reply =
    (request : AuditRequest) (heads : List AuditHead) → IsReadAs text request heads → IsAuditedReply request heads reply

-- *Audit*: the success line if and only if every link holds, and with it what the log's entries say of the heads and
-- the watched entries; else the first link that fails
abbrev pub IsAuditReply : List ℕ → Reply → Type 0
IsAuditReply text = IsDecided (EveryLinkHolds text) (IsFirstFailing text) (Succeeds text)

-- for private clauses: the error is one that the audit of a request can end with: there is a head, and each watched
-- entry is under one
abbrev pub IsShown : AuditError → Type 0
IsShown fault.Empty = ⊥
IsShown (fault.Head place) = ⊥
IsShown other = Unit {0}

-- for private clauses: the reply to an audit that ended with this error
abbrev pub IsFaultReply : AuditError → Reply → Type 0
IsFaultReply (fault.NoteKey place) reply = reply ≡ link_refusal (NoteKey place)
IsFaultReply (fault.Origin place) reply = reply ≡ link_refusal (Origin place)
IsFaultReply (fault.Consistency place e) reply = reply ≡ link_refusal (Consistency place)
IsFaultReply (fault.Inclusion place e) reply = reply ≡ link_refusal (Inclusion place)
IsFaultReply other reply = ⊥

-- for private clauses: the reply to a request whose heads were read
abbrev pub IsReplyOver : AuditRequest → List AuditHead → Reply → Type 0
IsReplyOver request heads reply =
    (IsAudited (accepts request) heads request.watched × IsAuditedReply request heads reply)
    ⊎ ((e : AuditError) × IsAuditFault (accepts request) heads request.watched e × IsFaultReply e reply)
