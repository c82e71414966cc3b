-- The reply of `questions verify`, from what was read and what is listed.
use Rattle.std.proofs.Common.{◌≡◌, ◌↔◌, ◌<◌, ℕ, inl, inr, List, length, Result, Ok, Err}
use Rattle.std.proofs.Common.{IfOk, ap, refl, sym, subst}
use Rattle.std.proofs.lemmas.Result.{IfOk-weaker}
use Rattle.std.proofs.lemmas.List.Elements.{All-contains_itself, All-weaker}
use Rattle.std.specs.Prelude.{All, Contains}
use Rattle.sig_base.proofs.RuleLaws.{none_fails}
use Rattle.sig_base.specs.Rules.{FailsFirst}
use Rattle.sig_base.specs.declared.checker.AcceptedRow.{AcceptedRow}
use Rattle.sig_base.specs.declared.memory.OutOfMemory.{OutOfMemory}
use Rattle.sig_questions.specs.Asked.{IsAskedBy}
use Rattle.sig_questions.specs.Few.{QuestionsAreFew}
use Rattle.sig_questions.specs.Questions.{AreQuestions, HoldsUnasked, IsDecided}
use Rattle.sig_questions.specs.Questions.{QuestionsAreOneList, QuestionsHaveSchemes, RefusalsAreForAll, question_links}
use Rattle.sig_questions.specs.Rows.{HasScheme}
use Rattle.sig_questions.specs.declared.listing.NoQuestions.TheVariants.{Link as Refused, TooLong}
use Rattle.sig_verify.proofs.JudgedLaws.{alike_each, fails_as}
use Rattle.sig_verify.specs.declared.link.Link.{Link}
use Rattle.sig_verify.specs.declared.link.Link.TheVariants.{Request}
use Rattle.sig_program.proofs.Replies.{every-of_text, every-reply, first-of_text, first-reply, replied}
use Rattle.sig_request.proofs.RequestTexts.{one_request}
use Rattle.sig_program.proofs.RowSizes.{too-long}
use Rattle.sig_reply.proofs.RowsTexts.{not-beside}
use Rattle.sig_program.specs.Reply.{IsReply, IsVerifyQuestionsReply, refusal_reply}
use Rattle.sig_reply.specs.Reply.{IsListingOf}
use Rattle.sig_reply.specs.RowsText.{FitsBeside, room_beside, rows_text}
use Rattle.sig_program.specs.VerifyLink.{inputs}
use Rattle.sig_program.specs.VerifyQuestions.{HoldsOfVerifyQuestions, HoldsVerifyQuestions, IsOpen, RefusesForAll}
use Rattle.sig_program.specs.VerifyQuestions.{VerifyQuestionsFit, verify_question_links}
use Rattle.sig_request.specs.VerifyRequest.{verify_request}
use Rattle.sig_program.specs.declared.command.Command.TheVariants.{VerifyQuestions}
use Rattle.sig_reply.specs.declared.reply.Reply.{Reply}
use Rattle.sig_request.specs.declared.verify_request.VerifyRequest.{VerifyRequest}
use Rattle.sig_request.specs.ReadFrom.{IsRequestOf}

-- ---- the reply to a request

-- these are the signatures that a link of the request asks for
abbrev AreAsked : VerifyRequest → List AcceptedRow → Type 0
AreAsked request rows = (row : AcceptedRow) → Contains rows row ↔ IsAskedBy (inputs request) row

pub all-schemes : QuestionsHaveSchemes → (request : VerifyRequest) (rows : List AcceptedRow)
    → AreQuestions (inputs request) rows → All HasScheme rows
all-schemes have request rows are =
    All-weaker (Contains rows) HasScheme (have (inputs request) rows are) rows (All-contains_itself rows)

-- the one list fits
fits : (text : List ℕ) (request : VerifyRequest) (rows : List AcceptedRow) → QuestionsAreOneList
    → AreQuestions (inputs request) rows → FitsBeside text rows → VerifyQuestionsFit text request
fits text request rows one are short none_fail other other_are =
    subst (FitsBeside text) (one (inputs request) rows other are other_are) short

-- the list of a request does not fit
past-reply : (text : List ℕ) (request : VerifyRequest) (rows : List AcceptedRow)
    → IsRequestOf verify_request text request
    → IsOpen request → AreQuestions (inputs request) rows → ¬ FitsBeside text rows
    → IsReply VerifyQuestions text (refusal_reply Request)
past-reply text request rows is none_fail are long =
    first-reply VerifyQuestions text Request
    (first-of_text (IsRequestOf verify_request text) (HoldsOfVerifyQuestions text) (one_request verify_request text)
    request verify_question_links Request is (inl (λ fit. long (fit none_fail rows are), refl)))

listed-reply : (text : List ℕ) (request : VerifyRequest) (rows : List AcceptedRow) (reply : Reply)
    → QuestionsAreOneList → QuestionsAreFew → IsRequestOf verify_request text request → IsOpen request
    → AreQuestions (inputs request) rows
    → AreAsked request rows → IsListingOf text rows reply → IsReply VerifyQuestions text reply
listed-reply text request rows reply one few is none_fail are asked (inl made) =
    let its : IsVerifyQuestionsReply request reply =
    (rows, are, asked, few (inputs request) rows are, made.1, made.2) in
    every-reply VerifyQuestions text reply (ap (λ (r : Reply). r.status) made.2)
    (λ other other_is. subst (λ (r : VerifyRequest). IsVerifyQuestionsReply r reply)
    (one_request verify_request text request other is other_is) its)
    (every-of_text (IsRequestOf verify_request text) (HoldsOfVerifyQuestions text) request verify_question_links is
    (fits text request rows one are made.0, none_fail))
listed-reply text request rows reply one few is none_fail are asked (inr made) =
    subst (IsReply VerifyQuestions text) (sym made.1) (past-reply text request rows is none_fail are made.0)

-- a link that fails whatever is accepted is the first that fails of the text
fails-of_text : (text : List ℕ) (request : VerifyRequest) (link : Link) → IsRequestOf verify_request text request
    → FailsFirst (HoldsUnasked (inputs request)) question_links link
    → FailsFirst (HoldsVerifyQuestions text) verify_question_links link
fails-of_text text request link is first =
    first-of_text (IsRequestOf verify_request text) (HoldsOfVerifyQuestions text) (one_request verify_request text)
    request verify_question_links link is
    (inr (λ none_fail. absurd (none_fails (HoldsUnasked (inputs request)) question_links link none_fail first), first))

-- ---- the replies of a call

module _ (text : List ℕ) (request : VerifyRequest) (most : ℕ) (r : Result Reply OutOfMemory)
    (its_request : IsRequestOf verify_request text request) (its_room : most ≡ room_beside text) where
  pub refused-replied : (link : Link) → IfOk r (λ reply. reply ≡ refusal_reply link)
      → IsDecided (inputs request) most (Err (Refused link)) → IfOk r (IsReply VerifyQuestions text)
  refused-replied link is first =
      replied VerifyQuestions text (refusal_reply link) r is
      (first-reply VerifyQuestions text link (fails-of_text text request link its_request first))

  pub past-replied : QuestionsHaveSchemes → IfOk r (λ reply. reply ≡ refusal_reply Request)
      → IsDecided (inputs request) most (Err TooLong) → IfOk r (IsReply VerifyQuestions text)
  past-replied have is (none_fail, long) =
      replied VerifyQuestions text (refusal_reply Request) r is
      (past-reply text request long.0 its_request none_fail long.1
      (not-beside text long.0 (let P : ℕ → Type 0 = λ n. n < length (rows_text long.0) in
      subst P its_room (too-long most long.0 (all-schemes have request long.0 long.1) long.2))))

  pub listed-replied : (rows : List AcceptedRow) → QuestionsAreOneList → QuestionsAreFew
      → IfOk r (IsListingOf text rows) → IsDecided (inputs request) most (Ok rows) → AreAsked request rows
      → IfOk r (IsReply VerifyQuestions text)
  listed-replied rows one few made decided asked =
      IfOk-weaker r (IsListingOf text rows) (IsReply VerifyQuestions text)
      (λ reply. listed-reply text request rows reply one few its_request decided.0 decided.1 asked) made

-- ---- a link that is named

-- what fails first of a text does so of the one request that it is
pub of-request : (text : List ℕ) (request : VerifyRequest) (link : Link) → IsRequestOf verify_request text request
    → HoldsVerifyQuestions text link ↔ HoldsOfVerifyQuestions text request link
of-request text request link is = (
  λ h. subst (λ (r : VerifyRequest). HoldsOfVerifyQuestions text r link)
      (one_request verify_request text h.0 request h.1 is) h.2,
  λ h. (request, is, h),
)

pub refuses_for_all : RefusalsAreForAll → RefusesForAll
refuses_for_all law text request link is other = (
  λ first. elim first [
    | inl here ↦ absurd (other here.1)
    | inr later ↦ (law (inputs request) link).0
        (fails_as (HoldsVerifyQuestions text) (HoldsOfVerifyQuestions text request) question_links link
        (alike_each (HoldsVerifyQuestions text) (HoldsOfVerifyQuestions text request) question_links
        (λ l. of-request text request l is)) later.1)
  ],
  λ fails. fails-of_text text request link is ((law (inputs request) link).1 fails),
)
