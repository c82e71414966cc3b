-- What explains the reply to a request: one tree, whose compact text is the last line.
use Rattle.std.specs.Prelude.{◌≡◌, ◌⊎◌, ℕ, List, Option, Some, Ok, Err}
use Rattle.sig_explain_audit.specs.AuditExplanation.{IsAuditExplanation}
use Rattle.sig_explain_gate.specs.GateExplanation.{IsGateExplanation}
use Rattle.sig_explain_log.specs.Consistency.{consistency_tree}
use Rattle.sig_explain_log.specs.Log.{log_tree}
use Rattle.sig_explain_log.specs.Request.{request_tree}
use Rattle.sig_explain_verify.specs.Inputs.{Inputs}
use Rattle.sig_explain_verify.specs.RefusedTree.{IsRefusedTree}
use Rattle.sig_explain_verify.specs.Verified.{IsVerifiedTree}
use Rattle.sig_explain_witness.specs.WitnessExplanation.{IsWitnessExplanation}
use Rattle.sig_json.specs.Data.{Data}
use Rattle.sig_program.specs.ConsistencyLink.{IsConsistencyVerdict}
use Rattle.sig_program.specs.Link.{IsLogVerdict}
use Rattle.sig_program.specs.VerifyLink.{HoldsOfVerify, IsOfflineOutcome}
use Rattle.sig_program.specs.declared.explained.Explained.{Explained}
use Rattle.sig_program.specs.declared.explained.Explained.TheVariants.{Log, Verify, Consistency, Audit, Witness, Gate}
use Rattle.sig_request.specs.ConsistencyRequest.{consistency_request}
use Rattle.sig_request.specs.ReadFrom.{IsRequestOf}
use Rattle.sig_request.specs.Request.{log_request}
use Rattle.sig_request.specs.VerifyRequest.{verify_request}
use Rattle.sig_request.specs.declared.verify_request.VerifyRequest.{VerifyRequest}
use Rattle.sig_request_fault.specs.RequestFault.{request_fault_in}
use Rattle.sig_request_fault.specs.RequestTable.{consistency_table, log_table, verify_table}
use Rattle.sig_request_fault.specs.declared.fault.RequestFault.{RequestFault}
use Rattle.sig_table.specs.Table.{Table}
use Rattle.sig_verify.specs.Judged.{Judged}
use Rattle.sig_verify.specs.Links.{chain_links}
use Rattle.sig_verify.specs.OfflineVerdict.{Outcome}
use Rattle.sig_verify.specs.declared.link.Link.{Link}
use Rattle.sig_verify.specs.declared.logged_entry.LoggedEntry.{LoggedEntry}

-- the text is not a request of the table, and the tree says what is wrong with it
abbrev pub IsFaultTree : Table → List ℕ → Data → Type 0
IsFaultTree table text tree =
    (fault : RequestFault) × (request_fault_in table text ≡ Some fault) × (tree ≡ request_tree fault)

-- the text is a request, these are its verdict and the tree of both
abbrev pub IsVerdictTree : {R : Type 0} → (R → Type 0) → (R → Option Link → Type 0) → (R → Option Link → Data) → Data
    → Type 0
IsVerdictTree {R} IsIt IsVerdict tree_of tree =
    (request : R) × (verdict : Option Link) × IsIt request × IsVerdict request verdict
    × (tree ≡ tree_of request verdict)

-- ---- `verify`

-- the result of the chain of trust of a request: its error is that of the first link that fails, and it is that of the
-- steps of offline verification
pub record IsOutcome (request : VerifyRequest) (outcome : Outcome) : Type 0 where
  pub links : Judged {A = LoggedEntry} (HoldsOfVerify request) chain_links outcome
  pub steps : IsOfflineOutcome request outcome

-- what an explanation shows of a request
abbrev pub shown_inputs : VerifyRequest → Inputs
shown_inputs request = record {
  root = request.trusted_root;
  now = request.now;
  digest = request.digest;
  bundle = request.bundle;
  policy = request.policy;
  accepted = request.accepted;
}

-- the tree of the error, or of what was verified
abbrev pub IsOutcomeTree : VerifyRequest → Outcome → Data → Type 0
IsOutcomeTree request (Err error) tree = IsRefusedTree (shown_inputs request) error tree
IsOutcomeTree request (Ok entry) tree = IsVerifiedTree (shown_inputs request) entry tree

-- the text is a request, this is what its chain of trust is, and the tree shows it
abbrev pub IsChainTree : List ℕ → Data → Type 0
IsChainTree text tree =
    (request : VerifyRequest) × (outcome : Outcome) × IsRequestOf verify_request text request
    × IsOutcome request outcome × IsOutcomeTree request outcome tree

-- ---- by command

abbrev pub IsExplanation : Explained → List ℕ → Data → Type 0
IsExplanation Log text tree =
    IsFaultTree log_table text tree ⊎ IsVerdictTree (IsRequestOf log_request text) IsLogVerdict log_tree tree
IsExplanation Verify text tree = IsFaultTree verify_table text tree ⊎ IsChainTree text tree
IsExplanation Consistency text tree =
    IsFaultTree consistency_table text tree
    ⊎ IsVerdictTree (IsRequestOf consistency_request text) IsConsistencyVerdict consistency_tree tree
IsExplanation Audit text tree = IsAuditExplanation text tree
IsExplanation Witness text tree = IsWitnessExplanation text tree
IsExplanation Gate text tree = IsGateExplanation text tree

-- a text has one explanation, of the one reply that it has
abbrev pub HasOneExplanation : Explained → Type 0
HasOneExplanation what =
    (text : List ℕ) (one other : Data) → IsExplanation what text one → IsExplanation what text other → one ≡ other
