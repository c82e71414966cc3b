-- The reply of `witness`, from what its request is.
use Rattle.std.proofs.Common.{◌≡◌, ◌<◌, ◌≤◌, ◌+◌, ◌∙◌, ℕ, Bool, true, false, List, length, inl, inr, Option, Some, None, Result, IfOk, ap, arith, lit<, refl, subst, sym}
use Rattle.std.proofs.lemmas.Result.{IfOk-weaker}
use Rattle.std.specs.List.{list_all}
use Rattle.std.specs.Prelude.{MatchOption, if◌then◌else◌}
use Rattle.sig_base.specs.declared.memory.OutOfMemory.{OutOfMemory}
use Rattle.sig_reply.specs.Reply.{no_request}
use Rattle.sig_reply.specs.declared.reply.Reply.{Reply}
use Rattle.sig_request.proofs.RequestTexts.{one_request}
use Rattle.sig_request.specs.Limit.{most_bytes}
use Rattle.sig_request.specs.ReadFrom.{IsReadFrom, IsRequestOf}
use Rattle.sig_witness.specs.StateText.{state_text}
use Rattle.sig_witness_command.proofs.Starts.{no_start, one_start}
use Rattle.sig_witness_command.proofs.Walks.{walk-run}
use Rattle.sig_witness_command.specs.Outcome.{is_accepted}
use Rattle.sig_witness_command.specs.Reply.{IsReadAs, IsReplyTo, IsUnread, IsWitnessReply, IsWitnessedReply, witnessed}
use Rattle.sig_witness_command.specs.Request.{witness_request}
use Rattle.sig_witness_command.specs.Start.{HasNoStart, IsStart, Logs}
use Rattle.sig_witness_command.specs.Walk.{IsWalk, takes}
use Rattle.sig_witness_command.specs.declared.outcome.Outcome.{Outcome}
use Rattle.sig_witness_command.specs.declared.request.WitnessRequest.{WitnessRequest}

-- ---- a text is read in one way

-- what is so of a request and its start is so of each reading of the text
pub carried : (P : WitnessRequest → Logs → Type 0) (text : List ℕ) (a b : WitnessRequest) (xs ys : Logs)
    → IsReadAs text a xs → IsReadAs text b ys → P a xs → P b ys
carried P text a b xs ys is other holds =
    let same = one_request witness_request text a b is.meant other.meant in
    let start = one_start b xs ys (subst (λ (r : WitnessRequest). IsStart r xs) same is.starts) other.starts in
    subst (λ (l : Logs). P b l) start (subst (λ (r : WitnessRequest). P r xs) same holds)

pub not_unread : (text : List ℕ) (request : WitnessRequest) (start : Logs) → IsReadAs text request start
    → IsUnread text → ⊥
not_unread text request start is (inl none) = none request is.meant
not_unread text request start is (inr (other, meant, stops)) =
    let same = one_request witness_request text other request meant is.meant in
    no_start request start is.starts (subst HasNoStart same stops)

-- ---- the status

two-values : (all : Bool) → ◌≡◌ {A = ℕ} (if all then 0 else 1) 2 → ⊥
two-values true e = cc
two-values false e = cc

small-status : (outcomes : List Outcome) (state : List ℕ) → (witnessed outcomes state).status ≡ 2 → ⊥
small-status outcomes state e = two-values (list_all is_accepted outcomes) e

-- ---- the replies

started : (text : List ℕ) (request : WitnessRequest) (start : Logs) (reply : Reply) → IsReadAs text request start
    → IsWitnessedReply request start reply → IsWitnessReply text reply
started text request start reply is made =
    let never = not_unread text request start is in
    record {
      decided = inl (record { request = request; start = start; is = is });
      replied = λ other other_start read.
          carried (λ r l. IsWitnessedReply r l reply) text request other start other_start is read made;
      refused = λ unread. absurd (never unread);
      status = (
        λ two. absurd (small-status made.outcomes (state_text made.after)
            (sym (ap (λ (r : Reply). r.status) made.made) ∙ two)),
        λ unread. absurd (never unread),
      );
    }

unread : (text : List ℕ) (reply : Reply) → IsUnread text → reply ≡ no_request → IsWitnessReply text reply
unread text reply none same = record {
  decided = inr none;
  replied = λ request start is. absurd (not_unread text request start is none);
  refused = λ _. same;
  status = (λ _. none, λ _. ap (λ (r : Reply). r.status) same);
}

replied-to : (text : List ℕ) (request : WitnessRequest) (reply : Reply) → IsRequestOf witness_request text request
    → IsReplyTo request reply → IsWitnessReply text reply
replied-to text request reply meant (inl (stops, same)) = unread text reply (inr (request, meant, stops)) same
replied-to text request reply meant (inr (start, starts, made)) =
    started text request start reply (record { meant = meant; starts = starts }) made

-- what was read is the text's request
pub its-request : (text : List ℕ) (found : Option WitnessRequest) (request : WitnessRequest) → found ≡ Some request
    → IsReadFrom witness_request text found → IsRequestOf witness_request text request
its-request text found request some read = subst (IsReadFrom witness_request text) some read

pub request-replied : (text : List ℕ) (request : WitnessRequest) (r : Result Reply OutOfMemory)
    → IsRequestOf witness_request text request → IfOk r (IsReplyTo request) → IfOk r (IsWitnessReply text)
request-replied text request r meant =
    IfOk-weaker r (IsReplyTo request) (IsWitnessReply text) (λ reply. replied-to text request reply meant)

pub no-request : (text : List ℕ) (found : Option WitnessRequest) → found ≡ None → IsReadFrom witness_request text found
    → IsUnread text
no-request text found none read = inl (subst (IsReadFrom witness_request text) none read)

pub no-request-replied : (text : List ℕ) (found : Option WitnessRequest) (r : Result Reply OutOfMemory)
    → IfOk r (λ reply. reply ≡ no_request) → found ≡ None → IsReadFrom witness_request text found
    → IfOk r (IsWitnessReply text)
no-request-replied text found r made none read =
    IfOk-weaker r (λ reply. reply ≡ no_request) (IsWitnessReply text)
    (λ reply. unread text reply (no-request text found none read)) made

-- a text that is too long is none
pub long-request : (text : List ℕ) → most_bytes + 1 ≤ length text → IsUnread text
long-request text long = inl (λ request is. omega (arith, is.short, long))

pub long-witness : (text : List ℕ) → most_bytes + 1 ≤ length text → IsWitnessReply text no_request
long-witness text long = unread text no_request (long-request text long) refl

-- ---- the reply from the logs that a request starts from

pub stopped : (request : WitnessRequest) (found : Option Logs) (r : Result Reply OutOfMemory) → found ≡ None
    → MatchOption found (HasNoStart request) (IsStart request) → IfOk r (λ reply. reply ≡ no_request)
    → IfOk r (IsReplyTo request)
stopped request found r none is =
    let stops : HasNoStart request =
    subst (λ (f : Option Logs). MatchOption f (HasNoStart request) (IsStart request)) none is in
    IfOk-weaker r (λ reply. reply ≡ no_request) (IsReplyTo request) (λ reply same. inl (stops, same))

-- the start that was found
pub its-start : (request : WitnessRequest) (found : Option Logs) (start : Logs) → found ≡ Some start
    → MatchOption found (HasNoStart request) (IsStart request) → IsStart request start
its-start request found start some is =
    subst (λ (f : Option Logs). MatchOption f (HasNoStart request) (IsStart request)) some is

pub no-its-start : (request : WitnessRequest) (found : Option Logs) → found ≡ None
    → MatchOption found (HasNoStart request) (IsStart request) → HasNoStart request
no-its-start request found none is =
    subst (λ (f : Option Logs). MatchOption f (HasNoStart request) (IsStart request)) none is

pub replied-from : (request : WitnessRequest) (start : Logs) (r : Result Reply OutOfMemory) → IsStart request start
    → IfOk r (IsWitnessedReply request start) → IfOk r (IsReplyTo request)
replied-from request start r starts =
    IfOk-weaker r (IsWitnessedReply request start) (IsReplyTo request) (λ reply made. inr (start, starts, made))

pub made-walk : (request : WitnessRequest) (start : Logs) (outcomes : List Outcome) (after : Logs) (reply : Reply)
    → IsWalk (takes request.accepted) start request.updates outcomes after
    → reply ≡ witnessed outcomes (state_text after) → IsWitnessedReply request start reply
made-walk request start outcomes after reply walk made =
    let (updates, are, run) = walk-run (takes request.accepted) start after request.updates outcomes walk in
    record {
      outcomes = outcomes;
      after = after;
      walk = walk;
      updates = updates;
      are = are;
      run = run;
      made = made;
    }

pub made-reply : (request : WitnessRequest) (start after : Logs) (outcomes : List Outcome) (state : List ℕ)
    (r : Result Reply OutOfMemory) → IsWalk (takes request.accepted) start request.updates outcomes after
    → state ≡ state_text after → IfOk r (λ reply. reply ≡ witnessed outcomes state)
    → IfOk r (IsWitnessedReply request start)
made-reply request start after outcomes state r walk written =
    IfOk-weaker r (λ reply. reply ≡ witnessed outcomes state) (IsWitnessedReply request start)
    (λ reply same. made-walk request start outcomes after reply walk (same ∙ ap (witnessed outcomes) written))

-- ---- the status is small

small-values : (all : Bool) → (if all then 0 else 1) < 3
small-values true = lit< tt
small-values false = lit< tt

witnessed-small : (outcomes : List Outcome) (state : List ℕ) → (witnessed outcomes state).status < 3
witnessed-small outcomes state = small-values (list_all is_accepted outcomes)

pub witness-small : (text : List ℕ) (reply : Reply) → IsWitnessReply text reply → reply.status < 3
witness-small text reply is =
    elim is.decided [
      | inl has ↦
          let made = is.replied has.request has.start has.is in
          let P : Reply → Type 0 = λ r. r.status < 3 in
          subst P (sym made.made) (witnessed-small made.outcomes (state_text made.after))
      | inr none ↦ let two = is.status.1 none in omega (arith, two)
    ]
