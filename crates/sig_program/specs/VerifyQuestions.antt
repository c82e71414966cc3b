-- What `questions verify` writes: every signature that the chain of trust of a request of `verify` can depend on.
use Rattle.std.specs.Prelude.{◌≢◌, ◌↔◌, ℕ, List, ◌∷◌}
use Rattle.std.specs.List.{AllByRecursion}
use Rattle.sig_base.specs.Rules.{FailsFirst}
use Rattle.sig_base.specs.declared.checker.AcceptedRow.{AcceptedRow}
use Rattle.sig_questions.specs.Questions.{AreQuestions, FailsForAll, HoldsUnasked, question_links}
use Rattle.sig_verify.specs.declared.link.Link.{Link}
use Rattle.sig_verify.specs.declared.link.Link.TheVariants.{Request}
use Rattle.sig_reply.specs.RowsText.{FitsBeside}
use Rattle.sig_program.specs.VerifyLink.{inputs}
use Rattle.sig_request.specs.VerifyRequest.{verify_request}
use Rattle.sig_request.specs.declared.verify_request.VerifyRequest.{VerifyRequest}
use Rattle.sig_request.specs.ReadFrom.{IsRequestOf}

-- no link fails whatever signatures are accepted
abbrev pub IsOpen : VerifyRequest → Type 0
IsOpen request = AllByRecursion (HoldsUnasked (inputs request)) question_links

-- where signatures are asked for, their list and the request's text fit one request
abbrev pub VerifyQuestionsFit : List ℕ → VerifyRequest → Type 0
VerifyQuestionsFit text request =
    IsOpen request → (rows : List AcceptedRow) → AreQuestions (inputs request) rows → FitsBeside text rows

-- the links of `questions verify`: those of `verify` before it asks for a signature, and `issuer`
abbrev pub verify_question_links : List Link
verify_question_links = Request ∷ question_links

-- what a link requires of a text, and of the request that it is, whatever signatures are accepted: `issuer`, that a
-- path would lead to a trust anchor if every signature were genuine
abbrev pub HoldsOfVerifyQuestions : List ℕ → VerifyRequest → Link → Type 0
HoldsOfVerifyQuestions text request Request = VerifyQuestionsFit text request
HoldsOfVerifyQuestions text request other = HoldsUnasked (inputs request) other

-- a link holds of a text: the text is a request of `verify`, and the link holds of it
abbrev pub HoldsVerifyQuestions : List ℕ → Link → Type 0
HoldsVerifyQuestions text link =
    (request : VerifyRequest) × IsRequestOf verify_request text request × HoldsOfVerifyQuestions text request link

-- For a request of `verify`, a link other than `request` is the first that fails in `questions verify` if and only if
-- it is the first that fails in the chain of trust, whatever signatures are accepted and whatever the policy says.
abbrev pub RefusesForAll : Type 0
RefusesForAll =
    (text : List ℕ) (request : VerifyRequest) (link : Link) → IsRequestOf verify_request text request → link ≢ Request
    → FailsFirst (HoldsVerifyQuestions text) verify_question_links link ↔ FailsForAll (inputs request) link
