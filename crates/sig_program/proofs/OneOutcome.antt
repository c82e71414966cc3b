-- A text has one explanation by `verify`, `audit`, `witness` and `gate`.
use Rattle.std.proofs.Common.{◌≡◌, ◌⊎◌, ℕ, List, Ok, Err, inl, inr}
use Rattle.sig_explain_audit.proofs.OneTree.{one_tree as one_of_audit_request}
use Rattle.sig_explain_audit.specs.AuditExplanation.{IsRequestTree as IsAuditRequestTree}
use Rattle.sig_explain_gate.specs.OneTree.{TextsHaveOneTree}
use Rattle.sig_explain_verify.specs.OneTree.{IsOfLinks, IsResultTree, IsShownResult, ResultsHaveOneTree}
use Rattle.sig_explain_witness.proofs.OneTree.{one_tree as one_of_witness_request}
use Rattle.sig_explain_witness.specs.WitnessExplanation.{IsRequestTree as IsWitnessRequestTree}
use Rattle.sig_json.specs.Data.{Data}
use Rattle.sig_program.proofs.OneExplanation.{IsOfRequest, one_of_text}
use Rattle.sig_program.specs.Explanation.{HasOneExplanation, IsChainTree, IsFaultTree, IsOutcome, IsOutcomeTree}
use Rattle.sig_program.specs.Explanation.{shown_inputs}
use Rattle.sig_program.specs.VerifyLink.{HoldsOfVerify, checker, policy}
use Rattle.sig_program.specs.declared.explained.Explained.TheVariants.{Verify, Audit, Witness, Gate}
use Rattle.sig_request.specs.AuditRequest.{audit_request}
use Rattle.sig_request.specs.VerifyRequest.{verify_request}
use Rattle.sig_request.specs.declared.verify_request.VerifyRequest.{VerifyRequest}
use Rattle.sig_request_fault.proofs.AuditTables.{audit_is}
use Rattle.sig_request_fault.proofs.RequestTables.{verify_is}
use Rattle.sig_request_fault.specs.AuditTable.{audit_table}
use Rattle.sig_request_fault.specs.RequestTable.{verify_table}
use Rattle.sig_verify.specs.Judged.{Judged}
use Rattle.sig_verify.specs.Links.{chain_links}
use Rattle.sig_verify.specs.OfflineVerdict.{Outcome}
use Rattle.sig_verify.specs.declared.logged_entry.LoggedEntry.{LoggedEntry}
use Rattle.sig_witness_command.specs.Request.{witness_request}
use Rattle.sig_witness_fault.proofs.WitnessTables.{witness_is}
use Rattle.sig_witness_fault.specs.WitnessTable.{witness_table}

-- ---- `verify`

-- the error of a first link that fails names it
of_links : (request : VerifyRequest) (outcome : Outcome)
    → Judged {A = LoggedEntry} (HoldsOfVerify request) chain_links outcome → IsOfLinks outcome
of_links request (Ok entry) judged = tt
of_links request (Err error) judged = (judged.0, judged.1)

as_result : (request : VerifyRequest) (outcome : Outcome) (tree : Data) → IsOutcomeTree request outcome tree
    → IsResultTree (shown_inputs request) outcome tree
as_result request (Ok entry) tree shown = shown
as_result request (Err error) tree shown = shown

-- the tree of the one outcome of a request
abbrev OfOutcome : VerifyRequest → Data → Type 0
OfOutcome request tree = (outcome : Outcome) × IsOutcome request outcome × IsOutcomeTree request outcome tree

shown_result : (request : VerifyRequest) (tree : Data) → OfOutcome request tree
    → IsShownResult (checker request) (policy request) (shown_inputs request) tree
shown_result request tree (outcome, is, shown) = record {
  result = outcome;
  offline = is.steps;
  named = of_links request outcome is.links;
  shown = as_result request outcome tree shown;
}

module _ (results : ResultsHaveOneTree) where
  one_of_outcome : (request : VerifyRequest) (one other : Data) → OfOutcome request one → OfOutcome request other
      → one ≡ other
  one_of_outcome request one other p q =
      results (checker request) (policy request) (shown_inputs request) one other (shown_result request one p)
      (shown_result request other q)

  by_request : (text : List ℕ) (tree : Data) → IsFaultTree verify_table text tree ⊎ IsChainTree text tree
      → IsFaultTree verify_table text tree
      ⊎ IsOfRequest verify_request verify_table verify_is text OfOutcome one_of_outcome tree
  by_request text tree (inl fault) = inl fault
  by_request text tree (inr (request, outcome, is, judged, shown)) = inr (request, is, (outcome, judged, shown))

  pub one_of_verify : HasOneExplanation Verify
  one_of_verify text one other p q =
      one_of_text verify_request verify_table verify_is text OfOutcome one_of_outcome one other (by_request text one p)
      (by_request text other q)

-- ---- `audit`, `witness` and `gate`

pub one_of_audit : HasOneExplanation Audit
one_of_audit text =
    one_of_text audit_request audit_table audit_is text (λ request. IsAuditRequestTree request)
    (λ request. one_of_audit_request request)

pub one_of_witness : HasOneExplanation Witness
one_of_witness text =
    one_of_text witness_request witness_table witness_is text (λ request. IsWitnessRequestTree request)
    (λ request. one_of_witness_request request)

pub one_of_gate : TextsHaveOneTree → HasOneExplanation Gate
one_of_gate texts text = texts text
