-- The reply of `witness` to a request.
use Rattle.std.specs.Prelude.{◌≡◌, ◌⊎◌, ◌↔◌, ℕ, List, ◌++◌, codes, if◌then◌else◌}
use Rattle.std.specs.List.{list_all}
use Rattle.sig_reply.specs.Reply.{no_request}
use Rattle.sig_reply.specs.declared.reply.Reply.{Reply}
use Rattle.sig_request.specs.ReadFrom.{IsRequestOf}
use Rattle.sig_witness.specs.StateText.{state_text}
use Rattle.sig_witness.specs.Updates.{IsRun, Update}
use Rattle.sig_witness_command.specs.Outcome.{is_accepted, outcome_lines}
use Rattle.sig_witness_command.specs.Request.{witness_request}
use Rattle.sig_witness_command.specs.Start.{HasNoStart, IsStart, Logs}
use Rattle.sig_witness_command.specs.Walk.{AreUpdates, IsWalk, takes}
use Rattle.sig_witness_command.specs.declared.outcome.Outcome.{Outcome}
use Rattle.sig_witness_command.specs.declared.request.WitnessRequest.{WitnessRequest}

-- the text is this request of `witness`, which starts from these logs
pub record IsReadAs (text : List ℕ) (request : WitnessRequest) (start : Logs) : Type 0 where
  pub meant : IsRequestOf witness_request text request
  pub starts : IsStart request start

-- a text is a request of `witness` that starts from some logs
pub record HasStart (text : List ℕ) : Type 0 where
  pub request : WitnessRequest
  pub start : Logs
  pub is : IsReadAs text request start

-- it is not one: it is not a request, or its state is not one or an origin of it cannot be added
abbrev pub IsUnread : List ℕ → Type 0
IsUnread text =
    ((request : WitnessRequest) → ¬ IsRequestOf witness_request text request)
    ⊎ ((request : WitnessRequest) × IsRequestOf witness_request text request × HasNoStart request)

-- a line for each update, an empty line, and the state's text; the status is 0 if and only if all were accepted
abbrev pub witnessed : List Outcome → List ℕ → Reply
witnessed outcomes state = record {
  status = if list_all is_accepted outcomes then 0 else 1;
  text = outcome_lines outcomes ++ (codes "\n" ++ state);
}

-- the reply to a request that starts from these logs: the outcomes of its updates, and the state after them, which is
-- *Witness run*'s of the updates whose texts are checkpoints
pub record IsWitnessedReply (request : WitnessRequest) (start : Logs) (reply : Reply) : Type 0 where
  pub outcomes : List Outcome
  pub after : Logs
  pub walk : IsWalk (takes request.accepted) start request.updates outcomes after
  pub updates : List Update
  pub are : AreUpdates request.updates updates
  pub run : IsRun (takes request.accepted) start updates after
  pub made : reply ≡ witnessed outcomes (state_text after)

-- *Witness*: the reply to a text. It is `refused request` if and only if the text is not a request, or its state is not one, or
-- an origin of it cannot be added.
pub record IsWitnessReply (text : List ℕ) (reply : Reply) : Type 0 where
  pub decided : HasStart text ⊎ IsUnread text
  pub replied : (request : WitnessRequest) (start : Logs) → IsReadAs text request start
      → IsWitnessedReply request start reply
  pub refused : IsUnread text → reply ≡ no_request
  pub status : (reply.status ≡ 2) ↔ IsUnread text

-- for private clauses: the reply to a request
abbrev pub IsReplyTo : WitnessRequest → Reply → Type 0
IsReplyTo request reply =
    (HasNoStart request × (reply ≡ no_request))
    ⊎ ((start : Logs) × IsStart request start × IsWitnessedReply request start reply)
