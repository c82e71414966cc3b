-- The reply of `questions log` and `questions consistency`, from what was read.
use Rattle.std.proofs.Common.{◌≡◌, ◌⊎◌, ℕ, inl, inr, List, Option, Some, None, Result, Ok, Err, IfOk}
use Rattle.std.proofs.Common.{ap, refl, sym, subst}
use Rattle.std.proofs.lemmas.Result.{IfOk-weaker}
use Rattle.std.specs.List.{AllByRecursion}
use Rattle.sig_base.proofs.ResultSteps.{ok_is}
use Rattle.sig_base.specs.Rules.{FailsFirst}
use Rattle.sig_base.specs.declared.memory.OutOfMemory.{OutOfMemory}
use Rattle.sig_base.specs.declared.fault.CheckpointFault.{CheckpointFault}
use Rattle.sig_json.specs.Data.{Data}
use Rattle.sig_rekor.specs.CheckpointText.{IsCheckpoint}
use Rattle.sig_rekor.specs.declared.fault.ParseCheckpointError.{ParseCheckpointError}
use Rattle.sig_rekor.specs.declared.fault.ParseCheckpointError.TheVariants.{DecodeError, OutOfMemory as Memory}
use Rattle.sig_rekor.specs.declared.checkpoint.SignedCheckpoint.{SignedCheckpoint}
use Rattle.sig_verify.specs.declared.link.Link.{Link}
use Rattle.sig_verify.specs.declared.link.Link.TheVariants.{Request, Checkpoint}
use Rattle.sig_program.proofs.HeadVerdicts.{no_fault}
use Rattle.sig_program.proofs.Replies.{every-of_text, every-reply, first-of_text, first-reply}
use Rattle.sig_request.proofs.RequestTexts.{one_request}
use Rattle.sig_request.specs.ConsistencyRequest.{consistency_request}
use Rattle.sig_request.specs.Request.{log_request}
use Rattle.sig_program.specs.HeadQuestions.{HeadQuestionsFit, HoldsHeadQuestions, HoldsOfHeadQuestions, IsCheckpointOf}
use Rattle.sig_program.specs.HeadQuestions.{head_question_links, head_rows}
use Rattle.sig_program.specs.Link.{EveryLinkHolds, IsFirstFailing}
use Rattle.sig_program.specs.Reply.{IsHeadListing, IsHeadQuestionsReply, IsReplyByLinks, Succeeds, refusal_reply}
use Rattle.sig_reply.specs.Reply.{IsListingOf}
use Rattle.sig_reply.specs.RowsText.{FitsBeside}
use Rattle.sig_program.specs.declared.command.Command.{Command}
use Rattle.sig_program.specs.declared.command.Command.TheVariants.{LogQuestions, ConsistencyQuestions}
use Rattle.sig_request.specs.declared.consistency_request.ConsistencyRequest.{ConsistencyRequest}
use Rattle.sig_request.specs.declared.head_members.ClaimedHead.{ClaimedHead}
use Rattle.sig_reply.specs.declared.reply.Reply.{Reply}
use Rattle.sig_request.specs.declared.request.LogRequest.{LogRequest}
use Rattle.sig_request.specs.ReadFrom.{IsRequestOf}

-- ---- what the reader of checkpoints says

pub one-checkpoint : (head : ClaimedHead) (text : List ℕ) (checkpoint : SignedCheckpoint) → text ≡ head.checkpoint
    → IsCheckpoint text checkpoint
    → ((other : SignedCheckpoint) → IsCheckpoint text other
    → ◌≡◌ {A = Result SignedCheckpoint ParseCheckpointError} (Ok other) (Ok checkpoint))
    → IsCheckpointOf head (Some checkpoint)
one-checkpoint head text checkpoint same is only = (
  subst (λ t. IsCheckpoint t checkpoint) same is,
  λ other other_is. ok_is other checkpoint
      (only other (subst (λ t. IsCheckpoint t other) (sym same) other_is)),
)

pub no-checkpoint : (head : ClaimedHead) (text : List ℕ) (fault : CheckpointFault) → text ≡ head.checkpoint
    → ((other : SignedCheckpoint) → IsCheckpoint text other
    → (DecodeError fault ≡ Memory) ⊎ ◌≡◌ {A = Result SignedCheckpoint ParseCheckpointError} (Ok other)
    (Err (DecodeError fault)))
    → IsCheckpointOf head None
no-checkpoint head text fault same none other is =
    no_fault other fault (none other (subst (λ t. IsCheckpoint t other) (sym same) is))

-- ---- the reply to a request

-- the list of the one checkpoint fits
fits : (text : List ℕ) (head : ClaimedHead) (checkpoint : SignedCheckpoint) → IsCheckpointOf head (Some checkpoint)
    → FitsBeside text (head_rows head checkpoint) → HeadQuestionsFit text head
fits text head checkpoint is short other read =
    let P : SignedCheckpoint → Type 0 = λ c. FitsBeside text (head_rows head c) in subst P (sym (is.1 other read)) short

-- a command whose links and replies are those of `questions` on the tree head of its request
module _ {R : Type 0} (command : Command) (meaning : Data → Option R) (head_of : R → ClaimedHead) (text : List ℕ)
    (request : R) (is : IsRequestOf meaning text request)
    (first_fails : (link : Link) → FailsFirst (HoldsHeadQuestions meaning head_of text) head_question_links link
    → IsFirstFailing command text link)
    (every_holds : AllByRecursion (HoldsHeadQuestions meaning head_of text) head_question_links
    → EveryLinkHolds command text)
    (succeeds : (reply : Reply)
    → ((r : R) → IsRequestOf meaning text r → IsHeadQuestionsReply (head_of r) reply) → Succeeds command text reply) where
  -- what fails first of the request
  refused : (link : Link)
      → FailsFirst (HoldsOfHeadQuestions text (head_of request)) head_question_links link
      → IsReplyByLinks command text (refusal_reply link)
  refused link first =
      first-reply command text link (first_fails link
      (first-of_text (IsRequestOf meaning text) (λ r. HoldsOfHeadQuestions text (head_of r)) (one_request meaning text)
      request head_question_links link is first))

  -- the checkpoint has no reading, or its signatures are listed, or do not fit
  listed-or_not : (reply : Reply) → IsHeadListing text (head_of request) reply → IsReplyByLinks command text reply
  listed-or_not reply (inl (none, made)) =
      subst (IsReplyByLinks command text) (sym made) (refused Checkpoint
      (inr (λ checkpoint read. absurd (none checkpoint read), inl (λ holds. none holds.0 holds.1, refl))))
  listed-or_not reply (inr (checkpoint, read, inl made)) =
      let its : IsHeadQuestionsReply (head_of request) reply =
      (head_rows (head_of request) checkpoint, (checkpoint, read.0, refl), made.1, made.2) in
      every-reply command text reply (ap (λ (r : Reply). r.status) made.2)
      (succeeds reply (λ other other_is. subst (λ (r : R). IsHeadQuestionsReply (head_of r) reply)
      (one_request meaning text request other is other_is) its))
      (every_holds (every-of_text (IsRequestOf meaning text) (λ r. HoldsOfHeadQuestions text (head_of r)) request
      head_question_links is
      (fits text (head_of request) checkpoint read made.0, ((checkpoint, read.0, tt), tt))))
  listed-or_not reply (inr (checkpoint, read, inr made)) =
      subst (IsReplyByLinks command text) (sym made.1) (refused Request
      (inl (λ fit. absurd (made.0 (fit checkpoint read.0)), refl)))

  head-replied : (r : Result Reply OutOfMemory) → IfOk r (IsHeadListing text (head_of request))
      → IfOk r (IsReplyByLinks command text)
  head-replied r = IfOk-weaker r (IsHeadListing text (head_of request)) (IsReplyByLinks command text) listed-or_not

pub log-questions-replied : (text : List ℕ) (request : LogRequest) (r : Result Reply OutOfMemory)
    → IsRequestOf log_request text request → IfOk r (IsHeadListing text request.head)
    → IfOk r (IsReplyByLinks LogQuestions text)
log-questions-replied text request r is =
    head-replied LogQuestions log_request (λ (q : LogRequest). q.head) text request is
    (λ link first. first) (λ every. every) (λ reply its. its) r

pub consistency-questions-replied : (text : List ℕ) (request : ConsistencyRequest) (r : Result Reply OutOfMemory)
    → IsRequestOf consistency_request text request → IfOk r (IsHeadListing text request.head)
    → IfOk r (IsReplyByLinks ConsistencyQuestions text)
consistency-questions-replied text request r is =
    head-replied ConsistencyQuestions consistency_request (λ (q : ConsistencyRequest). q.head) text request is
    (λ link first. first) (λ every. every) (λ reply its. its) r

-- ---- the listing of a tree head

pub unchecked-listing : (text : List ℕ) (head : ClaimedHead) (checkpoint : Option SignedCheckpoint)
    (r : Result Reply OutOfMemory) → IfOk r (λ reply. reply ≡ refusal_reply Checkpoint)
    → checkpoint ≡ None → IsCheckpointOf head checkpoint → IfOk r (IsHeadListing text head)
unchecked-listing text head checkpoint r made none missing =
    IfOk-weaker r (λ reply. reply ≡ refusal_reply Checkpoint) (IsHeadListing text head)
    (λ reply same. inl (subst (IsCheckpointOf head) none missing, same)) made

pub checked-listing : (text : List ℕ) (head : ClaimedHead) (had : Option SignedCheckpoint)
    (checkpoint : SignedCheckpoint) (r : Result Reply OutOfMemory)
    → IfOk r (IsListingOf text (head_rows head checkpoint)) → had ≡ Some checkpoint → IsCheckpointOf head had
    → IfOk r (IsHeadListing text head)
checked-listing text head had checkpoint r made which read =
    IfOk-weaker r (IsListingOf text (head_rows head checkpoint)) (IsHeadListing text head)
    (λ reply listing. inr (checkpoint, subst (IsCheckpointOf head) which read, listing)) made
