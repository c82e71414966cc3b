-- Nothing else matters: of a request's accepted signatures, only those that the updates ask for decide its reply,
-- also where no list was written; and a list that is written fits one request with the request that it is for.
use Rattle.std.specs.Prelude.{◌≡◌, ◌≤◌, ◌↔◌, ℕ, List, [], ◌∷◌, ◌++◌, Contains, length}
use Rattle.sig_base.specs.declared.checker.AcceptedRow.{AcceptedRow}
use Rattle.sig_reply.specs.Reply.{listed}
use Rattle.sig_reply.specs.RowsText.{accepted_name}
use Rattle.sig_reply.specs.declared.reply.Reply.{Reply}
use Rattle.sig_request.specs.Limit.{most_bytes}
use Rattle.sig_request.specs.ReadFrom.{IsRequestOf}
use Rattle.sig_witness.specs.Updates.{Update}
use Rattle.sig_witness_command.specs.Questions.{IsWitnessQuestionsReply, update_rows, witness_rows}
use Rattle.sig_witness_command.specs.Reply.{IsWitnessReply}
use Rattle.sig_witness_command.specs.Request.{witness_request}
use Rattle.sig_witness_command.specs.Start.{IsStart, Logs}
use Rattle.sig_witness_command.specs.Walk.{AreUpdates}
use Rattle.sig_witness_command.specs.declared.request.WitnessRequest.{WitnessRequest}

-- the request with these accepted signatures in place of its own
abbrev pub witness_with_accepted : WitnessRequest → List AcceptedRow → WitnessRequest
witness_with_accepted request rows = record {
  state = request.state;
  origins = request.origins;
  updates = request.updates;
  accepted = rows;
}

-- the request's accepted signatures and these agree on those that the updates ask for, also where no list was written
abbrev pub AgreeOnNotes : WitnessRequest → List AcceptedRow → Type 0
AgreeOnNotes request rows =
    (start : Logs) (updates : List Update) → IsStart request start → AreUpdates request.updates updates
    → (row : AcceptedRow) → Contains (witness_rows start updates) row → Contains request.accepted row ↔ Contains rows row

-- Two requests of `witness` that differ in nothing but their accepted signatures, and in these in none that the
-- updates ask for, have the same reply, also where no list was written.
abbrev pub WitnessQuestionsSuffice : Type 0
WitnessQuestionsSuffice =
    (text other : List ℕ) (request : WitnessRequest) (rows : List AcceptedRow)
    → IsRequestOf witness_request text request
    → IsRequestOf witness_request other (witness_with_accepted request rows)
    → AgreeOnNotes request rows
    → (reply : Reply) → IsWitnessReply text reply ↔ IsWitnessReply other reply

-- no row is there twice
abbrev pub AreDifferent : List AcceptedRow → Type 0
AreDifferent [] = Unit {0}
AreDifferent (row ∷ later) = (¬ Contains later row) × AreDifferent later

-- Each signature of an update under the key of its origin is listed once, and no other is.
abbrev pub WitnessRowsAreEachOnce : Type 0
WitnessRowsAreEachOnce =
    (start : Logs) (updates : List Update)
    → ((row : AcceptedRow) → Contains (witness_rows start updates) row ↔ Contains (update_rows start updates) row)
    × AreDifferent (witness_rows start updates)

-- The request with the list put in as `accepted`, before its last brace or wherever else, has at most as many bytes as
-- a request may have.
abbrev pub WitnessListsAreGivenBack : Type 0
WitnessListsAreGivenBack =
    (front after list : List ℕ) (reply : Reply) → IsWitnessQuestionsReply (front ++ after) reply → reply ≡ listed list
    → length (front ++ (accepted_name ++ (list ++ after))) ≤ most_bytes
