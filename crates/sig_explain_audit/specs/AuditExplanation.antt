-- *Explanation of an audit*: what is wrong with a text that is not a request; else the first head that is not a
-- checkpoint; else where the audit of the heads ends, or what was audited.
use Rattle.std.specs.Prelude.{◌≡◌, ◌⊎◌, ℕ, List, Some}
use Rattle.sig_audit.specs.Audited.{IsAudited}
use Rattle.sig_audit.specs.Faults.{IsAuditFault}
use Rattle.sig_audit.specs.declared.error.AuditError.{AuditError}
use Rattle.sig_audit.specs.declared.heads.AuditHead.{AuditHead}
use Rattle.sig_audit_command.specs.Heads.{AreHeads, IsFirstUnread, accepts}
use Rattle.sig_explain_audit.specs.Audited.{audited_tree}
use Rattle.sig_explain_audit.specs.RefusalRows.{fault_tree, unread_tree}
use Rattle.sig_explain_log.specs.Request.{request_tree}
use Rattle.sig_json.specs.Data.{Data}
use Rattle.sig_request.specs.AuditRequest.{audit_request}
use Rattle.sig_request.specs.ReadFrom.{IsRequestOf}
use Rattle.sig_request.specs.declared.audit_request.AuditRequest.{AuditRequest}
use Rattle.sig_request_fault.specs.AuditTable.{audit_table}
use Rattle.sig_request_fault.specs.RequestFault.{request_fault_in}
use Rattle.sig_request_fault.specs.declared.fault.RequestFault.{RequestFault}

-- the tree of a request whose heads are read: what was audited, or the first link that fails
abbrev pub IsAuditTree : AuditRequest → List AuditHead → Data → Type 0
IsAuditTree request heads tree =
    (IsAudited (accepts request) heads request.watched × (tree ≡ audited_tree heads request.watched))
    ⊎ ((e : AuditError) × IsAuditFault (accepts request) heads request.watched e × (tree ≡ fault_tree request heads e))

-- the tree of a request: the first head that is not a checkpoint, or that of its heads
abbrev pub IsRequestTree : AuditRequest → Data → Type 0
IsRequestTree request tree =
    ((place : ℕ) × IsFirstUnread request.heads place × (tree ≡ unread_tree request.heads place))
    ⊎ ((heads : List AuditHead) × AreHeads request.heads heads × IsAuditTree request heads tree)

-- *Explanation of an audit*
abbrev pub IsAuditExplanation : List ℕ → Data → Type 0
IsAuditExplanation text tree =
    ((fault : RequestFault) × (request_fault_in audit_table text ≡ Some fault) × (tree ≡ request_tree fault))
    ⊎ ((request : AuditRequest) × IsRequestOf audit_request text request × IsRequestTree request tree)
