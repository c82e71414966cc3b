-- What is shown of a text, from what it is.
use Rattle.std.proofs.Common.{◌≡◌, ◌≤◌, ◌+◌, ℕ, Bool, true, false, List, length, inl, inr, nat_lt, if◌then◌else◌, Option}
use Rattle.std.proofs.Common.{Some, None, Result, IfOk, option_map, ap, arith, lt-ltb, refl, subst, sym}
use Rattle.std.proofs.lemmas.Result.{IfOk-weaker}
use Rattle.sig_base.specs.OptionSteps.{or_else}
use Rattle.sig_base.specs.declared.memory.OutOfMemory.{OutOfMemory}
use Rattle.sig_explain_gate.specs.Artifact.{IsGateTree}
use Rattle.sig_explain_gate.specs.GateExplanation.{IsGateExplanation, unread_tree}
use Rattle.sig_explain_gate.specs.declared.explanation.ExplainedGate.{ExplainedGate}
use Rattle.sig_explain_log.specs.Request.{request_tree}
use Rattle.sig_gate_command.proofs.Replies.{its-manifest, long-manifest, manifest-reply, no-manifest, unread-reply}
use Rattle.sig_gate_command.proofs.Requests.{one_manifest}
use Rattle.sig_gate_command.specs.Reply.{IsGateReply, IsReportOf}
use Rattle.sig_gate_command.specs.Request.{IsGateText, IsReadFrom, IsUnread, parts_of}
use Rattle.sig_gate_command.specs.declared.request.GateRequest.{GateRequest}
use Rattle.sig_json.specs.Data.{Data}
use Rattle.sig_json.specs.Tree.{document_tree}
use Rattle.sig_manifest.specs.Read.{Parts, manifest_in}
use Rattle.sig_manifest_fault.specs.ManifestFault.{manifest_fault_in, unknown_fault}
use Rattle.sig_manifest_fault.specs.ManifestTable.{manifest_table}
use Rattle.sig_reply.specs.Reply.{no_request}
use Rattle.sig_request.specs.Limit.{most_bytes}
use Rattle.sig_request_fault.specs.RequestFault.{request_fault_in}
use Rattle.sig_request_fault.specs.declared.fault.RequestFault.{RequestFault}
use Rattle.sig_request_fault.specs.declared.fault.RequestFault.TheVariants.{TooLong, Document as InDocument}
use Rattle.sig_table.specs.DocumentFault.{fault_in}

manifest-shown : (text : List ℕ) (parts : Parts) (tree : Data) → IsGateText text parts → IsGateTree parts tree
    → IsGateExplanation text tree
manifest-shown text parts tree is shown = record {
  decided = inl (record { parts = parts; is = is });
  manifest = λ other read. subst (λ (p : Parts). IsGateTree p tree) (one_manifest text parts other is read) shown;
  refused = λ none. absurd (none parts is);
}

unread-shown : (text : List ℕ) (tree : Data) → IsUnread text → tree ≡ unread_tree (manifest_fault_in text)
    → IsGateExplanation text tree
unread-shown text tree none same = record {
  decided = inr none;
  manifest = λ parts is. absurd (none parts is);
  refused = λ _. same;
}

-- ---- the reply and the document of what was read

module _ (text : List ℕ) (found : Option GateRequest) (request : GateRequest) (r : Result ExplainedGate OutOfMemory)
    (some : found ≡ Some request) (read : IsReadFrom text found) where
  pub manifest-replied : IfOk r (λ explained. IsReportOf (parts_of request) explained.reply)
      → IfOk r (λ explained. IsGateReply text explained.reply)
  manifest-replied =
      IfOk-weaker r (λ explained. IsReportOf (parts_of request) explained.reply)
      (λ explained. IsGateReply text explained.reply)
      (λ explained. manifest-reply text (parts_of request) explained.reply (its-manifest text found request some read))

  pub manifest-explained : IfOk r (λ explained. IsGateTree (parts_of request) (document_tree explained.document))
      → IfOk r (λ explained. IsGateExplanation text (document_tree explained.document))
  manifest-explained =
      IfOk-weaker r (λ explained. IsGateTree (parts_of request) (document_tree explained.document))
      (λ explained. IsGateExplanation text (document_tree explained.document))
      (λ explained. manifest-shown text (parts_of request) (document_tree explained.document)
      (its-manifest text found request some read))

module _ (text : List ℕ) (found : Option GateRequest) (r : Result ExplainedGate OutOfMemory) (none : found ≡ None)
    (read : IsReadFrom text found) where
  pub unread-replied : IfOk r (λ explained. explained.reply ≡ no_request)
      → IfOk r (λ explained. IsGateReply text explained.reply)
  unread-replied =
      IfOk-weaker r (λ explained. explained.reply ≡ no_request) (λ explained. IsGateReply text explained.reply)
      (λ explained. unread-reply text explained.reply (no-manifest text found none read))

  pub unread-explained : IfOk r
      (λ explained. document_tree explained.document ≡ unread_tree (manifest_fault_in text))
      → IfOk r (λ explained. IsGateExplanation text (document_tree explained.document))
  unread-explained =
      IfOk-weaker r (λ explained. document_tree explained.document ≡ unread_tree (manifest_fault_in text))
      (λ explained. IsGateExplanation text (document_tree explained.document))
      (λ explained. unread-shown text (document_tree explained.document) (no-manifest text found none read))

-- ---- a text that is too long

too_long : (long : Bool) (document other : Option RequestFault) → long ≡ true
    → or_else (if long then Some TooLong else document) other ≡ Some TooLong
too_long true document other is = refl
too_long false document other is = cc

long-fault : (text : List ℕ) → most_bytes + 1 ≤ length text → manifest_fault_in text ≡ Some TooLong
unfolding manifest_fault_in request_fault_in
long-fault text long =
    too_long (nat_lt most_bytes (length text)) (option_map InDocument (fault_in manifest_table text))
    (unknown_fault (manifest_in text)) (lt-ltb most_bytes (length text) (omega (arith, long)))

pub long-gate-explanation : (text : List ℕ) → most_bytes + 1 ≤ length text → IsGateExplanation text (request_tree TooLong)
long-gate-explanation text long =
    unread-shown text (request_tree TooLong) (long-manifest text long) (sym (ap unread_tree (long-fault text long)))
