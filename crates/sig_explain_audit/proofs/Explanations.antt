-- The explanation of an audit, from what its text is and where the audit of its heads ends.
use Rattle.std.proofs.Common.{◌≡◌, ◌≢◌, ◌↔◌, ◌⊎◌, ◌+◌, ◌<◌, ◌≤◌, ◌∙◌, ℕ, List, length, Option, Some, None, Result, Ok, Err, IfOk, inl, inr, refl, sym, subst, arith}
use Rattle.std.proofs.lemmas.Bool.{lt-ltb}
use Rattle.std.specs.Prelude.{OnOk}
use Rattle.sig_audit.specs.Audited.{IsAudited}
use Rattle.sig_audit.specs.Faults.{IsAuditFault}
use Rattle.sig_audit.specs.declared.error.AuditError.{AuditError}
use Rattle.sig_audit.specs.declared.error.AuditError.TheVariants as fault
use Rattle.sig_audit.specs.declared.heads.AuditHead.{AuditHead}
use Rattle.sig_audit_command.specs.Heads.{AreHeads, IsFirstUnread, accepts}
use Rattle.sig_base.specs.declared.memory.OutOfMemory.{OutOfMemory}
use Rattle.sig_explain_audit.specs.Audited.{audited_tree}
use Rattle.sig_explain_audit.specs.AuditExplanation.{IsAuditExplanation, IsAuditTree, IsRequestTree}
use Rattle.sig_explain_audit.specs.RefusalRows.{fault_tree, unread_tree}
use Rattle.sig_explain_log.specs.Request.{request_tree}
use Rattle.sig_json.specs.Tree.{document_tree}
use Rattle.sig_json.specs.declared.document.Document.{Document}
use Rattle.sig_request.specs.AuditRequest.{audit_request}
use Rattle.sig_request.specs.Limit.{most_bytes}
use Rattle.sig_request.specs.ReadFrom.{IsReadFrom, IsRequestOf}
use Rattle.sig_request.specs.declared.audit_request.AuditRequest.{AuditRequest}
use Rattle.sig_request_fault.specs.AuditTable.{audit_table}
use Rattle.sig_request_fault.specs.RequestFault.{IsRequest, request_fault_in}
use Rattle.sig_request_fault.specs.declared.fault.RequestFault.{RequestFault}
use Rattle.sig_request_fault.specs.declared.fault.RequestFault.TheVariants.{TooLong}

-- ---- a text that is not a request

pub of-fault : (text : List ℕ) (found : Option RequestFault) (fault : RequestFault) (r : Result Document OutOfMemory)
    → found ≡ request_fault_in audit_table text → found ≡ Some fault
    → IfOk r (λ document. document_tree document ≡ request_tree fault)
    → IfOk r (λ document. IsAuditExplanation text (document_tree document))
of-fault text found fault (Ok document) value some made = inl (fault, sym value ∙ some, made)
of-fault text found fault (Err e) value some made = tt

-- a text with which nothing is wrong is a request
pub no-fault : (text : List ℕ) (found : Option RequestFault) → found ≡ None
    → ((found ≡ None) ↔ IsRequest audit_request text) → ((request : AuditRequest) → ¬ IsRequestOf audit_request text request)
    → ⊥
no-fault text found none both never = let request = both.0 none in never request.0 request.1

-- what was read is not a request
pub none-read : (text : List ℕ) (found : Option AuditRequest) → found ≡ None → IsReadFrom audit_request text found
    → (request : AuditRequest) → ¬ IsRequestOf audit_request text request
none-read text found none read = subst (IsReadFrom audit_request text) none read

long-fault : (text : List ℕ) → most_bytes + 1 ≤ length text → request_fault_in audit_table text ≡ Some TooLong
unfolding request_fault_in
long-fault text long = rw (lt-ltb most_bytes (length text) (omega (arith, long))) refl

-- of a text that is too long
pub long-audit-explanation : (text : List ℕ) → most_bytes + 1 ≤ length text
    → IsAuditExplanation text (request_tree TooLong)
long-audit-explanation text long = inl (TooLong, long-fault text long, refl)

-- ---- a request

pub its-request : (text : List ℕ) (found : Option AuditRequest) (request : AuditRequest) → found ≡ Some request
    → IsReadFrom audit_request text found → IsRequestOf audit_request text request
its-request text found request some read = subst (IsReadFrom audit_request text) some read

pub of-request : (text : List ℕ) (request : AuditRequest) (r : Result Document OutOfMemory)
    → IsRequestOf audit_request text request → IfOk r (λ document. IsRequestTree request (document_tree document))
    → IfOk r (λ document. IsAuditExplanation text (document_tree document))
of-request text request (Ok document) is made = inr (request, is, made)
of-request text request (Err e) is made = tt

pub of-unread : (request : AuditRequest) (place : ℕ) (r : Result Document OutOfMemory)
    → IsFirstUnread request.heads place
    → IfOk r (λ document. document_tree document ≡ unread_tree request.heads place)
    → IfOk r (λ document. IsRequestTree request (document_tree document))
of-unread request place (Ok document) first made = inl (place, first, made)
of-unread request place (Err e) first made = tt

pub of-heads : (request : AuditRequest) (heads : List AuditHead) (r : Result Document OutOfMemory)
    → AreHeads request.heads heads → IfOk r (λ document. IsAuditTree request heads (document_tree document))
    → IfOk r (λ document. IsRequestTree request (document_tree document))
of-heads request heads (Ok document) are made = inr (heads, are, made)
of-heads request heads (Err e) are made = tt

-- ---- the audit of its heads

module _ (request : AuditRequest) (heads : List AuditHead) where
  pub of-audited : (r : Result Document OutOfMemory) → IsAudited (accepts request) heads request.watched
      → IfOk r (λ document. document_tree document ≡ audited_tree heads request.watched)
      → IfOk r (λ document. IsAuditTree request heads (document_tree document))
  of-audited (Ok document) audited made = inl (audited, made)
  of-audited (Err e) audited made = tt

  pub of-audit-fault : (e : AuditError) (r : Result Document OutOfMemory)
      → (◌≡◌ {A = Result ℕ AuditError} (Err e) (Err fault.OutOfMemory))
      ⊎ IsAuditFault (accepts request) heads request.watched e
      → IfOk r (λ document. document_tree document ≡ fault_tree request heads e) → OnOk r (e ≢ fault.OutOfMemory)
      → IfOk r (λ document. IsAuditTree request heads (document_tree document))
  of-audit-fault e (Ok document) (inl memory) made known = absurd (known (let same = memory in cc))
  of-audit-fault e (Ok document) (inr fails) made known = inr (e, fails, made)
  of-audit-fault e (Err memory) found made known = tt
