-- The reply of `questions witness`, from what its request is and whether the list has room.
use Rattle.std.proofs.Common.{◌≡◌, ◌<◌, ◌≤◌, ◌+◌, ◌∙◌, ℕ, List, [], ◌∷◌, length, inl, inr, Option, None, Result, IfOk, ap, arith, refl, subst, sym}
use Rattle.std.proofs.lemmas.Result.{IfOk-weaker}
use Rattle.std.specs.List.{AllByRecursion}
use Rattle.sig_base.specs.declared.memory.OutOfMemory.{OutOfMemory}
use Rattle.sig_reply.proofs.FittingLists.{wherever_put}
use Rattle.sig_reply.specs.Reply.{IsListingOf, listed, no_request}
use Rattle.sig_reply.specs.RowsText.{FitsBeside, IsReadBack, rows_text}
use Rattle.sig_reply.specs.declared.reply.Reply.{Reply}
use Rattle.sig_request.specs.Limit.{most_bytes}
use Rattle.sig_request.specs.ReadFrom.{IsReadFrom, IsRequestOf}
use Rattle.sig_witness.proofs.Entries.{put-all}
use Rattle.sig_witness.specs.KeptLogs.{IsOriginText}
use Rattle.sig_witness.specs.StateText.{IsCutEntry}
use Rattle.sig_witness.specs.Updates.{Update}
use Rattle.sig_witness.specs.declared.kept_log.KeptLog.{KeptLog}
use Rattle.sig_witness_command.proofs.Listings.{one-updates}
use Rattle.sig_witness_command.proofs.Replies.{carried, long-request, no-request, not_unread}
use Rattle.sig_witness_command.specs.Questions.{HasNoRoom, HasQuestions, IsAskedOf, IsNotesReply, IsUnasked}
use Rattle.sig_witness_command.specs.Questions.{IsWitnessQuestionsReply, witness_rows}
use Rattle.sig_witness_command.specs.Reply.{IsReadAs}
use Rattle.sig_witness_command.specs.Request.{witness_request}
use Rattle.sig_witness_command.specs.Start.{AreAdded, HasNoStart, HaveLines, IsStart, Logs}
use Rattle.sig_witness_command.specs.Suffice.{WitnessListsAreGivenBack}
use Rattle.sig_witness_command.specs.Walk.{AreUpdates}
use Rattle.sig_witness_command.specs.declared.request.OriginKey.{OriginKey}
use Rattle.sig_witness_command.specs.declared.request.WitnessRequest.{WitnessRequest}

-- ---- each origin is a line

cut-lines : (logs : Logs) → AllByRecursion IsCutEntry logs → HaveLines logs
cut-lines [] cut = tt
cut-lines (entry ∷ later) cut = (cut.0.0, cut-lines later cut.1)

added-lines : (logs after : Logs) (all : List OriginKey) → AreAdded logs all after → HaveLines logs → HaveLines after
added-lines logs after [] same lines = subst HaveLines (sym same) lines
added-lines logs after (one ∷ later) (next, step, rest) lines =
    added-lines next after later rest
    (subst HaveLines (sym step.put)
    (put-all (λ (entry : List ℕ × KeptLog). IsOriginText entry.0) one.origin _ logs lines step.line))

pub start-lines : (request : WitnessRequest) (start : Logs) → IsStart request start → HaveLines start
start-lines request start is =
    added-lines is.kept start request.origins is.added (cut-lines is.kept is.state.cut)

-- ---- a text is asked of in one way

asked : (P : WitnessRequest → Logs → List Update → Type 0) (text : List ℕ) (a b : WitnessRequest) (xs ys : Logs)
    (us vs : List Update) → IsAskedOf text a xs us → IsAskedOf text b ys vs → P a xs us → P b ys vs
asked P text a b xs ys us vs is other holds =
    carried (λ r l. (ws : List Update) → AreUpdates r.updates ws → P r l ws) text a b xs ys is.is other.is
    (λ ws are. subst (P a xs) (one-updates a.updates us ws is.are are) holds) vs other.are

no-room : (text : List ℕ) → HasQuestions text → HasNoRoom text → ⊥
no-room text has past =
    past.past (asked (λ r l us. FitsBeside text (witness_rows l us)) text has.request past.request has.start past.start
    has.updates past.updates has.of past.of has.fits)

never : (text : List ℕ) → HasQuestions text → IsUnasked text → ⊥
never text has (inl unread) = not_unread text has.request has.start has.of.is unread
never text has (inr past) = no-room text has past

-- ---- the replies

unasked : (text : List ℕ) (reply : Reply) → IsUnasked text → reply ≡ no_request → IsWitnessQuestionsReply text reply
unasked text reply none same = record {
  decided = inr none;
  succeeds = (
    λ zero. absurd (let e : no_request.status ≡ 0 = sym (ap (λ (r : Reply). r.status) same) ∙ zero in cc),
    λ has. absurd (never text has none),
  );
  lists = λ request start updates is has. absurd (never text has none);
  refused = λ _. same;
}

listing : (text : List ℕ) (request : WitnessRequest) (start : Logs) (reply : Reply) → IsReadAs text request start
    → IsNotesReply text request start reply → IsWitnessQuestionsReply text reply
listing text request start reply is (updates, are, inl (fits, back, made)) =
    let of : IsAskedOf text request start updates = record { is = is; are = are } in
    let has : HasQuestions text = record {
      request = request;
      start = start;
      updates = updates;
      of = of;
      fits = fits;
    } in
    record {
      decided = inl has;
      succeeds = (λ _. has, λ _. ap (λ (r : Reply). r.status) made);
      lists = λ other xs us other_of _.
          asked (λ r l vs. IsReadBack (witness_rows l vs) × (reply ≡ listed (rows_text (witness_rows l vs)))) text request
          other start xs updates us of other_of (back, made);
      refused = λ none. absurd (never text has none);
    }
listing text request start reply is (updates, are, inr (past, made)) =
    unasked text reply
    (inr (record {
      request = request;
      start = start;
      updates = updates;
      of = record { is = is; are = are };
      past = past;
    })) made

pub listing-replied : (text : List ℕ) (request : WitnessRequest) (start : Logs) (r : Result Reply OutOfMemory)
    → IsRequestOf witness_request text request → IsStart request start → IfOk r (IsNotesReply text request start)
    → IfOk r (IsWitnessQuestionsReply text)
listing-replied text request start r meant starts =
    IfOk-weaker r (IsNotesReply text request start) (IsWitnessQuestionsReply text)
    (λ reply. listing text request start reply (record { meant = meant; starts = starts }))

pub stopped-asked : (text : List ℕ) (request : WitnessRequest) (r : Result Reply OutOfMemory)
    → IsRequestOf witness_request text request → HasNoStart request → IfOk r (λ reply. reply ≡ no_request)
    → IfOk r (IsWitnessQuestionsReply text)
stopped-asked text request r meant stops =
    IfOk-weaker r (λ reply. reply ≡ no_request) (IsWitnessQuestionsReply text)
    (λ reply. unasked text reply (inl (inr (request, meant, stops))))

pub no-request-asked : (text : List ℕ) (found : Option WitnessRequest) (r : Result Reply OutOfMemory)
    → IfOk r (λ reply. reply ≡ no_request) → found ≡ None → IsReadFrom witness_request text found
    → IfOk r (IsWitnessQuestionsReply text)
no-request-asked text found r made none read =
    IfOk-weaker r (λ reply. reply ≡ no_request) (IsWitnessQuestionsReply text)
    (λ reply. unasked text reply (inl (no-request text found none read))) made

pub long-notes : (text : List ℕ) → most_bytes + 1 ≤ length text → IsWitnessQuestionsReply text no_request
long-notes text long = unasked text no_request (inl (long-request text long)) refl

-- the reply by the updates' document
pub notes-replied : (text : List ℕ) (request : WitnessRequest) (start : Logs) (updates : List Update)
    (r : Result Reply OutOfMemory) → AreUpdates request.updates updates
    → IfOk r (IsListingOf text (witness_rows start updates)) → IfOk r (IsNotesReply text request start)
notes-replied text request start updates r are =
    IfOk-weaker r (IsListingOf text (witness_rows start updates)) (IsNotesReply text request start)
    (λ reply is. (updates, are, is))

-- ---- a list that is written can be given back

pub lists_given_back : WitnessListsAreGivenBack
lists_given_back front after list reply is lists =
    let has = is.succeeds.0 (ap (λ (r : Reply). r.status) lists) in
    let made = is.lists has.request has.start has.updates has.of has in
    wherever_put front after list (witness_rows has.start has.updates) (sym lists ∙ made.1) has.fits

-- ---- the status is small

pub questions-small : (text : List ℕ) (reply : Reply) → IsWitnessQuestionsReply text reply → reply.status < 3
questions-small text reply is =
    elim is.decided [
      | inl has ↦ let zero = is.succeeds.1 has in omega (arith, zero)
      | inr none ↦ let two = ap (λ (r : Reply). r.status) (is.refused none) in omega (arith, two)
    ]
