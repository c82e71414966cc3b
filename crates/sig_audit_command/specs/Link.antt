-- The links of `audit`, in their order: `request`; `checkpoint` of each head; `note-key`, `origin` and `consistency` of
-- each head in turn; `inclusion` of each watched entry in turn.
use Rattle.std.specs.Prelude.{◌≡◌, ◌⊎◌, ℕ, List, codes, Option, Some, None}
use Rattle.sig_audit.specs.Audited.{IsAudited}
use Rattle.sig_audit.specs.Faults.{IsAuditFault}
use Rattle.sig_audit.specs.declared.error.AuditError.{AuditError}
use Rattle.sig_audit.specs.declared.error.AuditError.TheVariants as fault
use Rattle.sig_audit.specs.declared.heads.AuditHead.{AuditHead}
use Rattle.sig_reply.specs.Reply.{no_request, refusal_at}
use Rattle.sig_reply.specs.declared.reply.Reply.{Reply}
use Rattle.sig_request.specs.AuditRequest.{audit_request}
use Rattle.sig_request.specs.ReadFrom.{IsRequestOf}
use Rattle.sig_request.specs.declared.audit_request.AuditRequest.{AuditRequest}
use Rattle.sig_audit_command.specs.Heads.{AreHeads, IsFirstUnread, accepts}
use Rattle.sig_audit_command.specs.declared.link.AuditLink.{AuditLink}
use Rattle.sig_audit_command.specs.declared.link.AuditLink.TheVariants.{Request, Checkpoint, NoteKey, Origin}
use Rattle.sig_audit_command.specs.declared.link.AuditLink.TheVariants.{Consistency, Inclusion}

-- the text is this request of `audit`, and its checkpoints are read as these heads
pub record IsReadAs (text : List ℕ) (request : AuditRequest) (heads : List AuditHead) : Type 0 where
  pub meant : IsRequestOf audit_request text request
  pub read : AreHeads request.heads heads

-- every link holds of a text: it is a request of `audit`, its heads are checkpoints, and they and the watched entries
-- are those of an audited log
pub record EveryLinkHolds (text : List ℕ) : Type 0 where
  pub request : AuditRequest
  pub heads : List AuditHead
  pub is : IsReadAs text request heads
  pub audited : IsAudited (accepts request) heads request.watched

-- the text is not a request, or a head of it is not a checkpoint, the first such
abbrev pub IsUnread : List ℕ → AuditLink → Type 0
IsUnread text link =
    ((link ≡ Request) × ((request : AuditRequest) → ¬ IsRequestOf audit_request text request))
    ⊎ ((place : ℕ) × (link ≡ Checkpoint place)
    × ((request : AuditRequest) × IsRequestOf audit_request text request × IsFirstUnread request.heads place))

-- the link that an error of an audit is of
abbrev pub link_of : AuditError → Option AuditLink
link_of (fault.NoteKey place) = Some (NoteKey place)
link_of (fault.Origin place) = Some (Origin place)
link_of (fault.Consistency place e) = Some (Consistency place)
link_of (fault.Inclusion place e) = Some (Inclusion place)
link_of other = None

-- the heads that a text has are read, and their audit ends at this link
pub record EndsAt (text : List ℕ) (link : AuditLink) : Type 0 where
  pub request : AuditRequest
  pub heads : List AuditHead
  pub is : IsReadAs text request heads
  pub e : AuditError
  pub fault : IsAuditFault (accepts request) heads request.watched e
  pub named : link_of e ≡ Some link

-- The link is the first that does not hold of a text: it is not a request; or a head's text is not a checkpoint; or the
-- heads are read, and their audit ends there.
abbrev pub IsFirstFailing : List ℕ → AuditLink → Type 0
IsFirstFailing text link = IsUnread text link ⊎ EndsAt text link

-- the reply where this link is the first that fails
abbrev pub link_refusal : AuditLink → Reply
link_refusal Request = no_request
link_refusal (Checkpoint place) = refusal_at (codes "checkpoint") place
link_refusal (NoteKey place) = refusal_at (codes "note-key") place
link_refusal (Origin place) = refusal_at (codes "origin") place
link_refusal (Consistency place) = refusal_at (codes "consistency") place
link_refusal (Inclusion place) = refusal_at (codes "inclusion") place
