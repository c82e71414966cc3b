-- Nothing else matters: of a manifest's accepted signatures, only those that the bundles ask for decide its reply,
-- also where no list was written; and a list that is written fits one request with the manifest that it is for.
use Rattle.std.specs.Prelude.{◌≡◌, ◌≤◌, ◌↔◌, ℕ, List, ◌++◌, Contains, length}
use Rattle.sig_base.specs.declared.checker.AcceptedRow.{AcceptedRow}
use Rattle.sig_gate_command.specs.Questions.{AreGateRows, AsksFor, IsGateQuestionsReply, each_once, gate_inputs}
use Rattle.sig_gate_command.specs.Reply.{IsGateReply}
use Rattle.sig_gate_command.specs.Request.{IsGateText}
use Rattle.sig_manifest.specs.Manifest.{Gate}
use Rattle.sig_reply.specs.Reply.{listed}
use Rattle.sig_reply.specs.RowsText.{accepted_name}
use Rattle.sig_reply.specs.declared.reply.Reply.{Reply}
use Rattle.sig_request.specs.Limit.{most_bytes}
use Rattle.sig_verify.specs.Links.{Inputs}
use Rattle.sig_witness_command.specs.Suffice.{AreDifferent}

-- a bundle of the manifest asks for the signature
abbrev pub AskFor : Gate → AcceptedRow → Type 0
AskFor gate row = (i : Inputs) × Contains (gate_inputs gate) i × AsksFor i row

-- two lists of accepted signatures agree on those that the bundles ask for, also where no list was written
abbrev pub AgreeOnAsked : Gate → List AcceptedRow → List AcceptedRow → Type 0
AgreeOnAsked gate one other = (row : AcceptedRow) → AskFor gate row → Contains one row ↔ Contains other row

-- Two manifests that differ in nothing but their accepted signatures, and in these in none that the bundles ask for,
-- have the same reply, also where no list was written.
abbrev pub GateQuestionsSuffice : Type 0
GateQuestionsSuffice =
    (text other : List ℕ) (gate : Gate) (rows changed : List AcceptedRow)
    → IsGateText text (gate, rows) → IsGateText other (gate, changed) → AgreeOnAsked gate rows changed
    → (reply : Reply) → IsGateReply text reply ↔ IsGateReply other reply

-- Each signature that a bundle asks for is listed once, and no other is.
abbrev pub GateRowsAreEachOnce : Type 0
GateRowsAreEachOnce =
    (gate : Gate) (rows : List AcceptedRow) → AreGateRows gate rows
    → ((row : AcceptedRow) → Contains (each_once rows) row ↔ AskFor gate row) × AreDifferent (each_once rows)

-- The manifest with the list put in as `accepted`, before its last brace or wherever else, has at most as many bytes as
-- a request may have.
abbrev pub GateListsAreGivenBack : Type 0
GateListsAreGivenBack =
    (front after list : List ℕ) (reply : Reply) → IsGateQuestionsReply (front ++ after) reply → reply ≡ listed list
    → length (front ++ (accepted_name ++ (list ++ after))) ≤ most_bytes
