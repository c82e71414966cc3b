-- Nothing else matters: of a request's accepted signatures, only those that the heads ask for decide its reply, also
-- where no list was written; and a list that is written fits one request with the request that it is for.
use Rattle.std.specs.Prelude.{◌≡◌, ◌≤◌, ◌↔◌, ℕ, List, ◌++◌, Contains, length}
use Rattle.sig_audit.specs.declared.heads.AuditHead.{AuditHead}
use Rattle.sig_base.specs.declared.checker.AcceptedRow.{AcceptedRow}
use Rattle.sig_reply.specs.Reply.{listed}
use Rattle.sig_reply.specs.RowsText.{accepted_name}
use Rattle.sig_reply.specs.declared.reply.Reply.{Reply}
use Rattle.sig_request.specs.AuditRequest.{audit_request}
use Rattle.sig_request.specs.Limit.{most_bytes}
use Rattle.sig_request.specs.ReadFrom.{IsRequestOf}
use Rattle.sig_request.specs.declared.audit_request.AuditRequest.{AuditRequest}
use Rattle.sig_audit_command.specs.Heads.{AreHeads}
use Rattle.sig_audit_command.specs.Questions.{IsAuditQuestionsReply, audit_rows}
use Rattle.sig_audit_command.specs.Reply.{IsAuditReply}

-- the request with these accepted signatures in place of its own
abbrev pub audit_with_accepted : AuditRequest → List AcceptedRow → AuditRequest
audit_with_accepted request rows = record {
  heads = request.heads;
  watched = request.watched;
  scheme = request.scheme;
  key = request.key;
  accepted = rows;
  entries = request.entries;
}

-- the request's accepted signatures and these agree on those that the heads ask for, also where no list was written
abbrev pub AgreeOnHeads : AuditRequest → List AcceptedRow → Type 0
AgreeOnHeads request rows =
    (heads : List AuditHead) → AreHeads request.heads heads → (row : AcceptedRow)
    → Contains (audit_rows request heads) row → Contains request.accepted row ↔ Contains rows row

-- Two requests of `audit` that differ in nothing but their accepted signatures, and in these in none that the heads ask
-- for, have the same reply, also where no list was written.
abbrev pub AuditQuestionsSuffice : Type 0
AuditQuestionsSuffice =
    (text other : List ℕ) (request : AuditRequest) (rows : List AcceptedRow)
    → IsRequestOf audit_request text request
    → IsRequestOf audit_request other (audit_with_accepted request rows)
    → AgreeOnHeads request rows
    → (reply : Reply) → IsAuditReply text reply ↔ IsAuditReply other reply

-- The request with the list put in as `accepted`, before its last brace or wherever else, has at most as many bytes as
-- a request may have.
abbrev pub AuditListsAreGivenBack : Type 0
AuditListsAreGivenBack =
    (front after list : List ℕ) (reply : Reply) → IsAuditQuestionsReply (front ++ after) reply → reply ≡ listed list
    → length (front ++ (accepted_name ++ (list ++ after))) ≤ most_bytes
