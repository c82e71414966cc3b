-- The explanation of a run of a witness, from what its text is and what became of each update.
use Rattle.std.proofs.Common.{◌≡◌, ◌≢◌, ◌↔◌, ◌⊎◌, ◌+◌, ◌≤◌, ◌∙◌, ℕ, List, length, Option, Some, None, Result, Ok, Err, IfOk, ap, inl, inr, refl, sym, subst, arith}
use Rattle.std.proofs.lemmas.Bool.{lt-ltb}
use Rattle.std.specs.Prelude.{OnOk}
use Rattle.sig_base.specs.declared.checker.AcceptedRow.{AcceptedRow}
use Rattle.sig_base.specs.declared.memory.OutOfMemory.{OutOfMemory}
use Rattle.sig_explain_log.specs.Request.{request_tree}
use Rattle.sig_explain_witness.specs.WitnessExplanation.{IsRequestTree, IsUpdatesTree, IsWitnessExplanation}
use Rattle.sig_explain_witness.specs.WitnessExplanation.{updates_tree}
use Rattle.sig_explain_witness.specs.UpdateTrees.{fault_tree, left_after, most_unsigned, taken_tree, unread_tree}
use Rattle.sig_explain_witness.specs.Start.{IsNoStart, no_start_tree}
use Rattle.sig_explain_witness.specs.Walk.{IsReadUpdate, IsShownList, IsShownUpdate, Standing}
use Rattle.sig_explain_witness.specs.declared.start.NoStart.{NoStart}
use Rattle.sig_json.specs.Data.{Data}
use Rattle.sig_json.specs.Tree.{document_tree}
use Rattle.sig_json.specs.declared.document.Document.{Document}
use Rattle.sig_request.specs.Limit.{most_bytes}
use Rattle.sig_request.specs.ReadFrom.{IsReadFrom, IsRequestOf}
use Rattle.sig_request_fault.specs.RequestFault.{IsRequest, request_fault_in}
use Rattle.sig_request_fault.specs.declared.fault.RequestFault.{RequestFault}
use Rattle.sig_request_fault.specs.declared.fault.RequestFault.TheVariants.{TooLong}
use Rattle.sig_witness.specs.Causes.{IsUpdateAnswer, IsUpdateFault}
use Rattle.sig_witness.specs.Updates.{IsStep, Update}
use Rattle.sig_witness.specs.declared.error.WitnessError.{WitnessError}
use Rattle.sig_witness.specs.declared.error.WitnessError.TheVariants as fault
use Rattle.sig_witness_command.specs.Outcome.{HasReading}
use Rattle.sig_witness_command.specs.Request.{witness_request}
use Rattle.sig_witness_command.specs.Start.{IsStart, Logs}
use Rattle.sig_witness_command.specs.Walk.{takes}
use Rattle.sig_witness_command.specs.declared.request.UpdateText.{UpdateText}
use Rattle.sig_witness_command.specs.declared.request.WitnessRequest.{WitnessRequest}
use Rattle.sig_witness_fault.specs.WitnessTable.{witness_table}

-- ---- a text that is not a request

pub of-fault : (text : List ℕ) (found : Option RequestFault) (fault : RequestFault) (r : Result Document OutOfMemory)
    → found ≡ request_fault_in witness_table text → found ≡ Some fault
    → IfOk r (λ document. document_tree document ≡ request_tree fault)
    → IfOk r (λ document. IsWitnessExplanation text (document_tree document))
of-fault text found fault (Ok document) value some made = inl (fault, sym value ∙ some, made)
of-fault text found fault (Err e) value some made = tt

-- a text with which nothing is wrong is a request
pub no-fault : (text : List ℕ) (found : Option RequestFault) → found ≡ None
    → ((found ≡ None) ↔ IsRequest witness_request text) → ((request : WitnessRequest) → ¬ IsRequestOf witness_request text request)
    → ⊥
no-fault text found none both never = let request = both.0 none in never request.0 request.1

-- what was read is not a request
pub none-read : (text : List ℕ) (found : Option WitnessRequest) → found ≡ None → IsReadFrom witness_request text found
    → (request : WitnessRequest) → ¬ IsRequestOf witness_request text request
none-read text found none read = subst (IsReadFrom witness_request text) none read

long-fault : (text : List ℕ) → most_bytes + 1 ≤ length text → request_fault_in witness_table text ≡ Some TooLong
unfolding request_fault_in
long-fault text long = rw (lt-ltb most_bytes (length text) (omega (arith, long))) refl

-- of a text that is too long
pub long-witness-explanation : (text : List ℕ) → most_bytes + 1 ≤ length text
    → IsWitnessExplanation text (request_tree TooLong)
long-witness-explanation text long = inl (TooLong, long-fault text long, refl)

-- ---- a request

pub its-request : (text : List ℕ) (found : Option WitnessRequest) (request : WitnessRequest) → found ≡ Some request
    → IsReadFrom witness_request text found → IsRequestOf witness_request text request
its-request text found request some read = subst (IsReadFrom witness_request text) some read

pub of-request : (text : List ℕ) (request : WitnessRequest) (r : Result Document OutOfMemory)
    → IsRequestOf witness_request text request → IfOk r (λ document. IsRequestTree request (document_tree document))
    → IfOk r (λ document. IsWitnessExplanation text (document_tree document))
of-request text request (Ok document) is made = inr (request, is, made)
of-request text request (Err e) is made = tt

pub of-no-start : (request : WitnessRequest) (why : NoStart) (r : Result Document OutOfMemory) → IsNoStart request why
    → IfOk r (λ document. document_tree document ≡ no_start_tree why)
    → IfOk r (λ document. IsRequestTree request (document_tree document))
of-no-start request why (Ok document) is made = inl (why, is, made)
of-no-start request why (Err e) is made = tt

pub of-start : (request : WitnessRequest) (start : Logs) (r : Result Document OutOfMemory) → IsStart request start
    → IfOk r (λ document. IsUpdatesTree request start (document_tree document))
    → IfOk r (λ document. IsRequestTree request (document_tree document))
of-start request start (Ok document) is made = inr (start, is, made)
of-start request start (Err e) is made = tt

pub of-updates : (request : WitnessRequest) (start : Logs) (texts : List UpdateText) (list : Data) (after : Standing)
    (r : Result Document OutOfMemory) → texts ≡ request.updates
    → IsShownList request.accepted (start, most_unsigned) texts list after
    → IfOk r (λ document. document_tree document ≡ updates_tree request.updates list)
    → IfOk r (λ document. IsUpdatesTree request start (document_tree document))
of-updates request start texts list after (Err e) same shown made = tt
of-updates request start texts list after (Ok document) same shown made =
    let own = subst (λ (ts : List UpdateText). IsShownList request.accepted (start, most_unsigned) ts list after) same shown in
    record {
      trees = own.0;
      after = after;
      walk = own.1;
      made = made ∙ ap (updates_tree request.updates) own.2;
    }

-- ---- an update

pub of-unread : (rows : List AcceptedRow) (standing : Standing) (text : UpdateText) (r : Result Document OutOfMemory)
    → ¬ HasReading text → IfOk r (λ document. document_tree document ≡ unread_tree text)
    → IfOk r (λ document. IsShownUpdate rows standing text (document_tree document) standing)
of-unread rows standing text (Ok document) none made = inl (none, made, refl)
of-unread rows standing text (Err e) none made = tt

module _ (rows : List AcceptedRow) (text : UpdateText) (update : Update) (before after : Logs) (left : ℕ) where
  abbrev Memory : Result (Unit {0}) WitnessError → Type 0
  Memory answer = ◌≡◌ {A = Result (Unit {0}) WitnessError} answer (Err fault.OutOfMemory)

  pub of-taken : (r : Result Document OutOfMemory) → Memory (Ok tt) ⊎ IsUpdateAnswer (takes rows) before update (Ok tt)
      → Memory (Ok tt) ⊎ IsStep (takes rows) before update after
      → IfOk r (λ document. document_tree document ≡ taken_tree update.checkpoint)
      → IfOk r (λ document. IsReadUpdate rows (before, left) text update (document_tree document) (after, left))
  of-taken (Err e) found step made = tt
  of-taken (Ok document) (inl memory) step made = absurd (let never = memory in cc)
  of-taken (Ok document) (inr found) (inl memory) made = absurd (let never = memory in cc)
  of-taken (Ok document) (inr found) (inr step) made =
      record { answer = Ok tt; is = found; shown = made; step = step; left = refl }

  pub of-refused : (e : WitnessError) (next : ℕ) (r : Result Document OutOfMemory)
      → Memory (Err e) ⊎ IsUpdateFault (takes rows) before update e
      → Memory (Err e) ⊎ IsStep (takes rows) before update after → after ≡ before → next ≡ left_after e left
      → IfOk r (λ document. document_tree document ≡ fault_tree rows after left text update.checkpoint e)
      → OnOk r (e ≢ fault.OutOfMemory)
      → IfOk r (λ document. IsReadUpdate rows (before, left) text update (document_tree document) (after, next))
  of-refused e next (Err memory) found step same fewer made known = tt
  of-refused e next (Ok document) (inl memory) step same fewer made known = absurd (known (let is = memory in cc))
  of-refused e next (Ok document) (inr found) (inl memory) same fewer made known =
      absurd (known (let is = memory in cc))
  of-refused e next (Ok document) (inr found) (inr step) same fewer made known =
      record {
        answer = Err e;
        is = found;
        shown = made ∙ ap (λ logs. fault_tree rows logs left text update.checkpoint e) same;
        step = step;
        left = fewer;
      }
