-- What `questions log` and `questions consistency` write: every signature that the tree head of a request can depend
-- on.
use Rattle.std.specs.Prelude.{◌≡◌, ℕ, List, [], ◌∷◌, map, Option, Some, None}
use Rattle.sig_base.specs.declared.checker.AcceptedRow.{AcceptedRow}
use Rattle.sig_json.specs.Data.{Data}
use Rattle.sig_rekor.specs.CheckpointText.{IsCheckpoint}
use Rattle.sig_rekor.specs.declared.checkpoint.SignedCheckpoint.{SignedCheckpoint}
use Rattle.sig_verify.specs.declared.link.Link.{Link}
use Rattle.sig_verify.specs.declared.link.Link.TheVariants.{Request, Checkpoint}
use Rattle.sig_program.specs.Head.{OfHeadCheckpoint, head_row}
use Rattle.sig_reply.specs.RowsText.{FitsBeside}
use Rattle.sig_request.specs.declared.head_members.ClaimedHead.{ClaimedHead}
use Rattle.sig_request.specs.ReadFrom.{IsRequestOf}

-- each signature of the checkpoint over its note, under the log's scheme and key, in order
abbrev pub head_rows : ClaimedHead → SignedCheckpoint → List AcceptedRow
head_rows head checkpoint = map (head_row head checkpoint) checkpoint.signatures

-- the signatures that the links on a tree head ask for
abbrev pub AreHeadQuestions : ClaimedHead → List AcceptedRow → Type 0
AreHeadQuestions head rows = OfHeadCheckpoint head (λ checkpoint. rows ≡ head_rows head checkpoint)

-- their list and the request's text fit one request
abbrev pub HeadQuestionsFit : List ℕ → ClaimedHead → Type 0
HeadQuestionsFit text head =
    (checkpoint : SignedCheckpoint) → IsCheckpoint head.checkpoint checkpoint
    → FitsBeside text (head_rows head checkpoint)

-- the links of `questions log` and `questions consistency`: those of the command before it asks for a signature
abbrev pub head_question_links : List Link
head_question_links = Request ∷ Checkpoint ∷ []

-- what a link asks of a text, and of the tree head of the request that it is
abbrev pub HoldsOfHeadQuestions : List ℕ → ClaimedHead → Link → Type 0
HoldsOfHeadQuestions text head Request = HeadQuestionsFit text head
HoldsOfHeadQuestions text head Checkpoint = OfHeadCheckpoint head (λ _. Unit {0})
HoldsOfHeadQuestions text head other = Unit {0}

-- a link holds of a text: the text is a request of this meaning, and the link holds of its tree head
abbrev pub HoldsHeadQuestions : {R : Type 0} → (Data → Option R) → (R → ClaimedHead) → List ℕ → Link → Type 0
HoldsHeadQuestions {R = R} meaning head_of text link =
    (request : R) × IsRequestOf meaning text request × HoldsOfHeadQuestions text (head_of request) link

-- the one checkpoint that the text of a head is, or `None`
abbrev pub IsCheckpointOf : ClaimedHead → Option SignedCheckpoint → Type 0
IsCheckpointOf head None = (checkpoint : SignedCheckpoint) → ¬ IsCheckpoint head.checkpoint checkpoint
IsCheckpointOf head (Some checkpoint) =
    IsCheckpoint head.checkpoint checkpoint
    × ((other : SignedCheckpoint) → IsCheckpoint head.checkpoint other → other ≡ checkpoint)
