-- One reply is meant: one link is the first that fails.
use Rattle.std.proofs.Common.{◌≡◌, ◌<◌, ℕ, inl, inr, List, [], ◌∷◌, length, Option, Some, None, Result, Ok, Err, IfOk}
use Rattle.std.proofs.Common.{ap, refl, sym, subst, arith}
use Rattle.std.proofs.lemmas.Result.{IfOk-weaker}
use Rattle.std.specs.List.{AllByRecursion}
use Rattle.sig_base.specs.declared.memory.OutOfMemory.{OutOfMemory}
use Rattle.sig_base.proofs.RuleLaws.{one_fails, none_fails}
use Rattle.sig_base.specs.Rules.{FailsFirst}
use Rattle.sig_json.specs.Data.{Data}
use Rattle.sig_verify.specs.declared.link.Link.{Link}
use Rattle.sig_verify.specs.declared.link.Link.TheVariants.{Request}
use Rattle.sig_request.specs.Limit.{most_bytes}
use Rattle.sig_program.specs.Link.{links, Holds, EveryLinkHolds, IsFirstFailing}
use Rattle.sig_request.specs.ReadFrom.{IsReadFrom, IsRequestOf}
use Rattle.sig_program.specs.Reply.{IsReplyByLinks, Succeeds, refusal_reply, status_of}
use Rattle.sig_program.specs.declared.command.Command.{Command}
use Rattle.sig_program.specs.declared.command.Command.TheVariants.{Log, Gate, GateQuestions}
use Rattle.sig_reply.specs.declared.reply.Reply.{Reply}

-- a refusal has no status 0
refused-status : (link : Link) → status_of link ≡ 0 → ⊥
refused-status Request e = cc
refused-status other e = cc

-- the reply where every link holds
pub every-reply : (command : Command) (text : List ℕ) (reply : Reply) → reply.status ≡ 0 → Succeeds command text reply
    → EveryLinkHolds command text → IsReplyByLinks command text reply
every-reply command text reply zero succeeds every = record {
  decided = inl every;
  succeeds = (λ _. every, λ _. zero);
  vouched = λ _. succeeds;
  refused = λ link first. absurd (none_fails (Holds command text) (links command) link every first);
}

-- the reply where a link is the first that fails
pub first-reply : (command : Command) (text : List ℕ) (link : Link) → IsFirstFailing command text link
    → IsReplyByLinks command text (refusal_reply link)
first-reply command text link first = record {
  decided = inr (link, first);
  succeeds = (
    λ e. absurd (refused-status link e),
    λ every. absurd
        (none_fails (Holds command text) (links command) link every first),
  );
  vouched = λ every. absurd (none_fails (Holds command text) (links command) link every first);
  refused =
      λ other other_first. ap refusal_reply (one_fails (Holds command text)
      (links command) link other first other_first);
}

-- what holds of the one request that a text is, and what fails first of it, does so of the text
pub every-of_text : {R : Type 0} (IsIt : R → Type 0) (Of : R → Link → Type 0) (request : R) (ls : List Link)
    → IsIt request → AllByRecursion (Of request) ls → AllByRecursion (λ link. (r : R) × IsIt r × Of r link) ls
every-of_text IsIt Of request [] is every = tt
every-of_text IsIt Of request (link ∷ ls) is every =
    ((request, is, every.0), every-of_text IsIt Of request ls is every.1)

pub first-of_text : {R : Type 0} (IsIt : R → Type 0) (Of : R → Link → Type 0)
    (one : (a b : R) → IsIt a → IsIt b → a ≡ b) (request : R) (ls : List Link) (link : Link)
    → IsIt request → FailsFirst (Of request) ls link → FailsFirst (λ l. (r : R) × IsIt r × Of r l) ls link
first-of_text IsIt Of one request [] link is first = first
first-of_text {R = R} IsIt Of one request (l ∷ ls) link is (inl here) = inl (
  λ holds. here.0 (let P : R → Type 0 = λ r. Of r l in subst P (one holds.0 request holds.1 is) holds.2),
  here.1,
)
first-of_text IsIt Of one request (l ∷ ls) link is (inr later) =
    inr ((request, is, later.0), first-of_text IsIt Of one request ls link is later.1)

-- the request is the first link of each command
unmet-request : (command : Command) (text : List ℕ) → ¬ Holds command text Request
    → IsFirstFailing command text Request
unmet-request Log text fails = inl (fails, refl)
unmet-request other text fails = inl (fails, refl)

pub unread-reply : (command : Command) (text : List ℕ) → ¬ Holds command text Request
    → IsReplyByLinks command text (refusal_reply Request)
unread-reply command text fails = first-reply command text Request (unmet-request command text fails)

-- a text that is too long is not a request
pub long-reply : (command : Command) (text : List ℕ) → most_bytes < length text
    → IsReplyByLinks command text (refusal_reply Request)
long-reply Log text long = unread-reply Log text (λ holds. omega (arith, holds.1.short, long))
long-reply Gate text long = unread-reply Gate text (λ holds. omega (arith, holds.is.short, long))
long-reply GateQuestions text long =
    unread-reply GateQuestions text (λ holds. omega (arith, holds.is.short, long))
long-reply other text long = unread-reply other text (λ holds. omega (arith, holds.1.short, long))

-- ---- the replies of a call

-- a reply that is made as this one
pub replied : (command : Command) (text : List ℕ) (wanted : Reply) (r : Result Reply OutOfMemory)
    → IfOk r (λ reply. reply ≡ wanted) → IsReplyByLinks command text wanted → IfOk r (IsReplyByLinks command text)
replied command text wanted (Ok reply) is meant = subst (IsReplyByLinks command text) (sym is) meant
replied command text wanted (Err memory) is meant = tt

-- no request was read, of a text of which the command's request holds only if it is one
pub unread-replied : {R : Type 0} (command : Command) (meaning : Data → Option R) (text : List ℕ)
    (found : Option R) (r : Result Reply OutOfMemory)
    → (Holds command text Request → (request : R) × IsRequestOf meaning text request)
    → IfOk r (λ reply. reply ≡ refusal_reply Request) → found ≡ None → IsReadFrom meaning text found
    → IfOk r (IsReplyByLinks command text)
unread-replied {R} command meaning text found r needs is none read =
    let no_request : (request : R) → ¬ IsRequestOf meaning text request = subst (IsReadFrom meaning text) none read in
    replied command text (refusal_reply Request) r is (unread-reply command text
    (λ holds. let its = needs holds in no_request its.0 its.1))

-- what was read is the text's request
pub its-request : {R : Type 0} (meaning : Data → Option R) (text : List ℕ) (found : Option R) (request : R)
    → found ≡ Some request → IsReadFrom meaning text found → IsRequestOf meaning text request
its-request meaning text found request some read = subst (IsReadFrom meaning text) some read

-- the links of the text's request have a verdict
module _ {R : Type 0} (command : Command) (meaning : Data → Option R) (Of : R → Option Link → Type 0)
    (text : List ℕ) (request : R) (verdict : Option Link) (r : Result Reply OutOfMemory)
    (is : IsRequestOf meaning text request) (judged : Of request verdict) where
  -- a link failed
  pub refused-replied : (link : Link)
      → (IsRequestOf meaning text request → Of request (Some link) → IsReplyByLinks command text (refusal_reply link))
      → IfOk r (λ reply. reply ≡ refusal_reply link) → verdict ≡ Some link → IfOk r (IsReplyByLinks command text)
  refused-replied link refused made which =
      replied command text (refusal_reply link) r made (refused is (subst (Of request) which judged))

  -- every link holds
  pub vouched-replied : (Made : Reply → Type 0)
      → ((reply : Reply) → IsRequestOf meaning text request → Of request None → Made reply
      → IsReplyByLinks command text reply)
      → IfOk r Made → verdict ≡ None → IfOk r (IsReplyByLinks command text)
  vouched-replied Made vouched made none =
      IfOk-weaker r Made (IsReplyByLinks command text)
      (λ reply. vouched reply is (subst (Of request) none judged)) made
