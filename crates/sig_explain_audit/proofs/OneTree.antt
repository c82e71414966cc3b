-- A request of `audit` has one tree: of its first head that is not a checkpoint, or of where the audit ends.
use Rattle.std.proofs.Common.{◌≡◌, ◌∙◌, ℕ, List, Result, Err, inl, inr, ap, subst, sym}
use Rattle.sig_audit.proofs.AuditAnswers.{audit-only}
use Rattle.sig_audit.specs.Faults.{IsAuditFault}
use Rattle.sig_audit.specs.declared.error.AuditError.{AuditError}
use Rattle.sig_audit.specs.declared.heads.AuditHead.{AuditHead}
use Rattle.sig_audit_command.proofs.AuditReplies.{not_both}
use Rattle.sig_audit_command.proofs.Heads.{no_unread, one_list, one_unread}
use Rattle.sig_audit_command.specs.Heads.{accepts}
use Rattle.sig_base.proofs.ResultSteps.{err_is}
use Rattle.sig_explain_audit.specs.AuditExplanation.{IsAuditTree, IsRequestTree}
use Rattle.sig_explain_audit.specs.RefusalRows.{fault_tree, unread_tree}
use Rattle.sig_json.specs.Data.{Data}
use Rattle.sig_request.specs.declared.audit_request.AuditRequest.{AuditRequest}

module _ (request : AuditRequest) where
  -- an audit has one fault
  one_fault : (heads : List AuditHead) (e f : AuditError) → IsAuditFault (accepts request) heads request.watched e
      → IsAuditFault (accepts request) heads request.watched f → e ≡ f
  one_fault heads e f p q =
      let first : Result ℕ AuditError = Err e in
      let second : Result ℕ AuditError = Err f in
      err_is e f
      (sym (audit-only (accepts request) heads request.watched first p)
      ∙ audit-only (accepts request) heads request.watched second q)

  of_heads : (heads : List AuditHead) (a b : Data) → IsAuditTree request heads a → IsAuditTree request heads b → a ≡ b
  of_heads heads a b (inl (audited, made)) (inl (too, said)) = made ∙ sym said
  of_heads heads a b (inl (audited, made)) (inr (e, fails, said)) =
      absurd (not_both (accepts request) heads request.watched e audited fails)
  of_heads heads a b (inr (e, fails, made)) (inl (audited, said)) =
      absurd (not_both (accepts request) heads request.watched e audited fails)
  of_heads heads a b (inr (e, fails, made)) (inr (f, failed, said)) =
      made ∙ ap (λ (error : AuditError). fault_tree request heads error) (one_fault heads e f fails failed) ∙ sym said

  pub one_tree : (a b : Data) → IsRequestTree request a → IsRequestTree request b → a ≡ b
  one_tree a b (inl (place, first, made)) (inl (index, too, said)) =
      made
      ∙ ap (λ (n : ℕ). unread_tree request.heads n) (one_unread request.heads place index first too)
      ∙ sym said
  one_tree a b (inl (place, first, made)) (inr (heads, are, shown)) =
      absurd (no_unread request.heads heads place are first)
  one_tree a b (inr (heads, are, shown)) (inl (place, first, made)) =
      absurd (no_unread request.heads heads place are first)
  one_tree a b (inr (heads, are, shown)) (inr (others, were, told)) =
      of_heads others a b
      (subst (λ (hs : List AuditHead). IsAuditTree request hs a) (one_list request.heads heads others are were) shown)
      told
