-- The reply of `audit`, from what its request is and where the audit of its heads ends.
use Rattle.std.proofs.Common.{suc, ◌≡◌, ◌≢◌, ◌<◌, ◌≤◌, ◌+◌, ◌-◌, ◌⊎◌, ◌∙◌, ℕ, Bool, List, [], ◌∷◌, ◌++◌, length, get_or, slice_get, codes, inl, inr}
use Rattle.std.proofs.Common.{Option, Some, None, Result, Ok, Err, IfOk, IfErr, ap, arith, refl, subst, sym, length-append}
use Rattle.std.proofs.lemmas.List.{length-map}
use Rattle.std.proofs.lemmas.Option.{slice_get-get_or}
use Rattle.std.proofs.lemmas.Result.{IfOk-weaker}
use Rattle.std.specs.List.{AllByRecursion}
use Rattle.sig_audit.proofs.AuditAnswers.{audit-only}
use Rattle.sig_audit.specs.Audited.{IsAudited, chain_head, chain_of}
use Rattle.sig_audit.specs.Faults.{IsAuditAnswer, IsAuditFault, IsLatestSize}
use Rattle.sig_audit.specs.declared.error.AuditError.{AuditError}
use Rattle.sig_audit.specs.declared.error.AuditError.TheVariants as fault
use Rattle.sig_audit.specs.declared.heads.AuditHead.{AuditHead}
use Rattle.sig_audit.specs.declared.heads.Watch.{Watch}
use Rattle.sig_base.proofs.OptionSteps.{some_is}
use Rattle.sig_base.specs.declared.memory.OutOfMemory.{OutOfMemory}
use Rattle.sig_reply.specs.Reply.{no_request, refusal_at}
use Rattle.sig_reply.specs.declared.reply.Reply.{Reply}
use Rattle.sig_request.proofs.RequestTexts.{one_request}
use Rattle.sig_request.specs.AuditRequest.{AreWithin, audit_request}
use Rattle.sig_request.specs.Limit.{most_bytes}
use Rattle.sig_request.specs.ReadFrom.{IsReadFrom, IsRequestOf}
use Rattle.sig_request.specs.declared.audit_request.AuditRequest.{AuditRequest}
use Rattle.sig_request.specs.declared.audit_request.HeadText.{HeadText}
use Rattle.sig_audit_command.proofs.Heads.{no_unread, one_list, one_unread}
use Rattle.sig_audit_command.proofs.Replies.{every-reply, first-reply}
use Rattle.sig_audit_command.specs.Heads.{AreHeads, IsFirstUnread, IsNoHeads, IsUnder, accepts}
use Rattle.sig_audit_command.specs.Line.{IsAuditedReply, IsListLine, audited}
use Rattle.sig_audit_command.specs.Link.{EndsAt, EveryLinkHolds, IsFirstFailing, IsReadAs, IsUnread, link_of, link_refusal}
use Rattle.sig_audit_command.specs.Reply.{IsAuditReply, IsFaultReply, IsReplyOver, IsShown, Succeeds}
use Rattle.sig_audit_command.specs.declared.link.AuditLink.{AuditLink}
use Rattle.sig_audit_command.specs.declared.link.AuditLink.TheVariants.{Request, Checkpoint, NoteKey, Origin}
use Rattle.sig_audit_command.specs.declared.link.AuditLink.TheVariants.{Consistency, Inclusion}
use Rattle.sig_audit_command.specs.declared.read_heads.NoHeads.{NoHeads}
use Rattle.sig_audit_command.specs.declared.read_heads.NoHeads.TheVariants as no_heads

-- ---- a text is one request, with one list of heads

pub one_read : (text : List ℕ) (a b : AuditRequest) (x y : List AuditHead) → IsReadAs text a x → IsReadAs text b y
    → (a ≡ b) × (x ≡ y)
one_read text a b x y p q =
    let same = one_request audit_request text a b p.meant q.meant in
    (same, one_list b.heads x y (subst (λ (r : AuditRequest). AreHeads r.heads x) same p.read) q.read)

-- what holds of the request and the heads of a text holds of all that it is read as
pub carried : (P : AuditRequest → List AuditHead → Type 0) (text : List ℕ) (a b : AuditRequest) (x y : List AuditHead)
    → IsReadAs text a x → IsReadAs text b y → P a x → P b y
carried P text a b x y p q holds =
    let both = one_read text a b x y p q in
    subst (P b) both.1 (subst (λ (r : AuditRequest). P r x) both.0 holds)

pub no_unread_link : (text : List ℕ) (request : AuditRequest) (heads : List AuditHead) (link : AuditLink)
    → IsReadAs text request heads → IsUnread text link → ⊥
no_unread_link text request heads link is (inl (_, none)) = none request is.meant
no_unread_link text request heads link is (inr (place, _, (other, meant, first))) =
    no_unread request.heads heads place is.read
    (subst (λ (r : AuditRequest). IsFirstUnread r.heads place) (one_request audit_request text other request meant is.meant)
    first)

pub one_unread_link : (text : List ℕ) (a b : AuditLink) → IsUnread text a → IsUnread text b → a ≡ b
one_unread_link text a b (inl p) (inl q) = p.0 ∙ sym q.0
one_unread_link text a b (inl p) (inr (place, _, (other, meant, first))) = absurd (p.1 other meant)
one_unread_link text a b (inr (place, _, (other, meant, first))) (inl q) = absurd (q.1 other meant)
one_unread_link text a b (inr (p, a_is, (r, meant, first))) (inr (q, b_is, (s, other_meant, second))) =
    let same = one_request audit_request text r s meant other_meant in
    a_is ∙ ap (λ place. Checkpoint place)
    (one_unread s.heads p q (subst (λ (t : AuditRequest). IsFirstUnread t.heads p) same first) second) ∙ sym b_is

-- ---- an audit ends in one way

module _ (takes : List ℕ → List ℕ → Bool) where
  pub audited-ok : (heads : List AuditHead) (watched : List Watch) → IsAudited takes heads watched
      → (size : ℕ) × IsAuditAnswer takes heads watched (Ok size)
  audited-ok [] watched is = absurd (is.0.chained.0 refl)
  audited-ok (first ∷ later) watched is =
      let place : ℕ = length (first ∷ later) - 1 in
      let last = get_or (first ∷ later) place first in
      (last.checkpoint.note.size, (is, (last, slice_get-get_or (first ∷ later) place first (omega arith), refl)))

  same_answer : (heads : List AuditHead) (watched : List Watch) (x y : Result ℕ AuditError)
      → IsAuditAnswer takes heads watched x → IsAuditAnswer takes heads watched y → x ≡ y
  same_answer heads watched x y p q = sym (audit-only takes heads watched x p) ∙ audit-only takes heads watched y q

  pub not_both : (heads : List AuditHead) (watched : List Watch) (e : AuditError) → IsAudited takes heads watched
      → IsAuditFault takes heads watched e → ⊥
  not_both heads watched e is fails =
      let found = audited-ok heads watched is in
      let same = same_answer heads watched (Ok found.0) (Err e) found.1 fails in cc

  one_fault : (heads : List AuditHead) (watched : List Watch) (e f : AuditError) → IsAuditFault takes heads watched e
      → IsAuditFault takes heads watched f → e ≡ f
  one_fault heads watched e f p q = let same = same_answer heads watched (Err e) (Err f) p q in cc

-- ---- one link fails first

ends_fault : (text : List ℕ) (link : AuditLink) (ends : EndsAt text link) (request : AuditRequest)
    (heads : List AuditHead) → IsReadAs text request heads → IsAuditFault (accepts request) heads request.watched ends.e
ends_fault text link ends request heads is =
    carried (λ (r : AuditRequest) hs. IsAuditFault (accepts r) hs r.watched ends.e) text ends.request request ends.heads
    heads ends.is is ends.fault

never : (text : List ℕ) (link : AuditLink) → EveryLinkHolds text → IsFirstFailing text link → ⊥
never text link every (inl unread) = no_unread_link text every.request every.heads link every.is unread
never text link every (inr ends) =
    not_both (accepts every.request) every.heads every.request.watched ends.e every.audited
    (ends_fault text link ends every.request every.heads every.is)

one_failing : (text : List ℕ) (a b : AuditLink) → IsFirstFailing text a → IsFirstFailing text b → a ≡ b
one_failing text a b (inl p) (inl q) = one_unread_link text a b p q
one_failing text a b (inl p) (inr q) = absurd (no_unread_link text q.request q.heads a q.is p)
one_failing text a b (inr p) (inl q) = absurd (no_unread_link text p.request p.heads b p.is q)
one_failing text a b (inr p) (inr q) =
    let same = one_fault (accepts q.request) q.heads q.request.watched p.e q.e
    (ends_fault text a p q.request q.heads q.is) q.fault in
    some_is a b (sym p.named ∙ ap link_of same ∙ q.named)

first-replied : (text : List ℕ) (link : AuditLink) → IsFirstFailing text link → (reply : Reply)
    → reply ≡ link_refusal link → IsAuditReply text reply
first-replied text link first =
    first-reply (EveryLinkHolds text) (IsFirstFailing text) (Succeeds text) link first
    (λ other is. one_failing text other link is first) (λ every. never text link every first)

-- ---- the reply to a request whose heads were read

fault-link : (e : AuditError) (reply : Reply) → IsFaultReply e reply
    → (link : AuditLink) × (link_of e ≡ Some link) × (reply ≡ link_refusal link)
fault-link (fault.NoteKey place) reply is = (NoteKey place, refl, is)
fault-link (fault.Origin place) reply is = (Origin place, refl, is)
fault-link (fault.Consistency place e) reply is = (Consistency place, refl, is)
fault-link (fault.Inclusion place e) reply is = (Inclusion place, refl, is)
fault-link fault.Empty reply is = absurd is
fault-link (fault.Head place) reply is = absurd is
fault-link fault.OutOfMemory reply is = absurd is

over : (text : List ℕ) (request : AuditRequest) (heads : List AuditHead) (reply : Reply) → IsReadAs text request heads
    → IsReplyOver request heads reply → IsAuditReply text reply
over text request heads reply is (inl (audited, made)) =
    let every : EveryLinkHolds text = record { request = request; heads = heads; is = is; audited = audited } in
    every-reply (EveryLinkHolds text) (IsFirstFailing text) (Succeeds text) reply
    (ap (λ (r : Reply). r.status) made.2.2)
    (λ other xs other_is. carried (λ r hs. IsAuditedReply r hs reply) text request other heads xs is other_is made)
    every (λ link first. never text link every first)
over text request heads reply is (inr (e, fails, shown)) =
    let its = fault-link e reply shown in
    first-replied text its.0 (inr (record {
      request = request;
      heads = heads;
      is = is;
      e = e;
      fault = fails;
      named = its.1;
    })) reply its.2

pub over-replied : (text : List ℕ) (request : AuditRequest) (heads : List AuditHead) (r : Result Reply OutOfMemory)
    → IsRequestOf audit_request text request → AreHeads request.heads heads → IfOk r (IsReplyOver request heads)
    → IfOk r (IsAuditReply text)
over-replied text request heads r is read =
    IfOk-weaker r (IsReplyOver request heads) (IsAuditReply text)
    (λ reply. over text request heads reply (record { meant = is; read = read }))

-- the first head whose text is not a checkpoint
pub unread-head : (text : List ℕ) (request : AuditRequest) (place : ℕ) → IsRequestOf audit_request text request
    → IsFirstUnread request.heads place → IsUnread text (Checkpoint place)
unread-head text request place is first = inr (place, refl, (request, is, first))

pub unread-replied : (text : List ℕ) (request : AuditRequest) (place : ℕ) (r : Result Reply OutOfMemory)
    → IsRequestOf audit_request text request → IsFirstUnread request.heads place
    → IfOk r (λ reply. reply ≡ refusal_at (codes "checkpoint") place) → IfOk r (IsAuditReply text)
unread-replied text request place r is first =
    IfOk-weaker r (λ reply. reply ≡ refusal_at (codes "checkpoint") place) (IsAuditReply text)
    (first-replied text (Checkpoint place) (inl (unread-head text request place is first)))

-- the text is not a request
pub no-request : (text : List ℕ) (found : Option AuditRequest) → found ≡ None → IsReadFrom audit_request text found
    → IsUnread text Request
no-request text found none read = inl (refl, subst (IsReadFrom audit_request text) none read)

pub no-request-replied : (text : List ℕ) (found : Option AuditRequest) (r : Result Reply OutOfMemory)
    → IfOk r (λ reply. reply ≡ no_request) → found ≡ None → IsReadFrom audit_request text found
    → IfOk r (IsAuditReply text)
no-request-replied text found r made none read =
    IfOk-weaker r (λ reply. reply ≡ no_request) (IsAuditReply text)
    (first-replied text Request (inl (no-request text found none read))) made

-- a text that is too long is none
pub long-request : (text : List ℕ) → most_bytes + 1 ≤ length text → IsUnread text Request
long-request text long = inl (refl, λ request is. omega (arith, is.short, long))

pub long-audit : (text : List ℕ) → most_bytes + 1 ≤ length text → IsAuditReply text no_request
long-audit text long = first-replied text Request (inl (long-request text long)) no_request refl

-- what was read is the text's request
pub its-request : (text : List ℕ) (found : Option AuditRequest) (request : AuditRequest) → found ≡ Some request
    → IsReadFrom audit_request text found → IsRequestOf audit_request text request
its-request text found request some read = subst (IsReadFrom audit_request text) some read

-- ---- how an audit of a request can end

-- there is a head
pub some-heads : (texts : List HeadText) (heads : List AuditHead) (watched : List Watch) → AreWithin texts watched
    → AreHeads texts heads → heads ≢ []
some-heads [] heads watched within are = λ _. omega (arith, within.some)
some-heads (t ∷ ts) [] watched within are = absurd are
some-heads (t ∷ ts) (x ∷ xs) watched within are = λ none. absurd (let e = none in cc)

same-length : (texts : List HeadText) (heads : List AuditHead) → AreHeads texts heads → length texts ≡ length heads
same-length [] [] are = refl
same-length [] (x ∷ xs) are = absurd are
same-length (t ∷ ts) [] are = absurd are
same-length (t ∷ ts) (x ∷ xs) are = ap suc (same-length ts xs are.1)

-- and each watched entry is under one
pub all-under : (texts : List HeadText) (heads : List AuditHead) (watched : List Watch) → AreWithin texts watched
    → AreHeads texts heads → AllByRecursion (IsUnder heads) watched
all-under texts heads watched within are =
    subst (λ count. AllByRecursion (λ (watch : Watch). watch.head < count) watched) (same-length texts heads are)
    within.under

under-one : (heads : List AuditHead) (before after : List Watch) (watch : Watch)
    → AllByRecursion (IsUnder heads) (before ++ watch ∷ after) → watch.head < length heads
under-one heads [] after watch all = all.0
under-one heads (one ∷ before) after watch all = under-one heads before after watch all.1

pub shown-fault : (takes : List ℕ → List ℕ → Bool) (heads : List AuditHead) (watched : List Watch) (e : AuditError)
    → heads ≢ [] → AllByRecursion (IsUnder heads) watched
    → (◌≡◌ {A = Result ℕ AuditError} (Err e) (Err fault.OutOfMemory)) ⊎ IsAuditFault takes heads watched e → IsShown e
shown-fault takes heads watched e some under (inl memory) =
    let same : e ≡ fault.OutOfMemory = cc in subst IsShown (sym same) tt
shown-fault takes heads watched e some under (inr (inl (none, _))) = absurd (some none)
shown-fault takes heads watched e some under (inr (inr (inl in_heads))) =
    elim in_heads.fault [
      | inl (_, is) ↦ subst IsShown (sym is) tt
      | inr (inl (_, _, is)) ↦ subst IsShown (sym is) tt
      | inr (inr (_, _, (_, _, (cause, _, is)))) ↦ subst IsShown (sym is) tt
    ]
shown-fault takes heads watched e some under (inr (inr (inr (_, in_watches)))) =
    let below = under-one heads in_watches.before in_watches.after in_watches.watch
    (subst (AllByRecursion (IsUnder heads)) in_watches.split under) in
    elim in_watches.fault [
      | inl (past, _) ↦ absurd (omega (arith, past, below, length-map heads chain_head))
      | inr (_, _, (cause, _, is)) ↦ subst IsShown (sym is) tt
    ]

-- ---- the reply over heads, from how their audit ended

module _ (request : AuditRequest) (heads : List AuditHead) where
  pub audited-over : (r : Result Reply OutOfMemory) → IsAudited (accepts request) heads request.watched
      → IfOk r (IsAuditedReply request heads) → IfOk r (IsReplyOver request heads)
  audited-over r audited =
      IfOk-weaker r (IsAuditedReply request heads) (IsReplyOver request heads) (λ reply made. inl (audited, made))

  memory-apart : (e : AuditError) (reply : Reply) → e ≡ fault.OutOfMemory → IsFaultReply e reply → ⊥
  memory-apart e reply same shown = subst (λ (f : AuditError). IsFaultReply f reply) same shown

  pub fault-over : (e : AuditError) (r : Result Reply OutOfMemory)
      → (◌≡◌ {A = Result ℕ AuditError} (Err e) (Err fault.OutOfMemory))
      ⊎ IsAuditFault (accepts request) heads request.watched e
      → IfOk r (IsFaultReply e) → IfOk r (IsReplyOver request heads)
  fault-over e r (inl memory) =
      let same : e ≡ fault.OutOfMemory = cc in
      IfOk-weaker r (IsFaultReply e) (IsReplyOver request heads) (λ reply shown. absurd (memory-apart e reply same shown))
  fault-over e r (inr fails) =
      IfOk-weaker r (IsFaultReply e) (IsReplyOver request heads) (λ reply shown. inr (e, fails, shown))

  -- the lines where every link holds
  pub made-lines : (k w size : ℕ) (second : List ℕ) (r : Result Reply OutOfMemory) → k ≡ length heads
      → w ≡ length request.watched → IsLatestSize heads size → IsListLine request.entries heads request.watched second
      → IfOk r (λ reply. reply ≡ audited k w size second) → IfOk r (IsAuditedReply request heads)
  made-lines k w size second r heads_are watched_are latest line =
      IfOk-weaker r (λ reply. reply ≡ audited k w size second) (IsAuditedReply request heads)
      (λ reply same. (
        size,
        latest,
        (
          second,
          line,
          same
              ∙ ap (λ n. audited n w size second) heads_are ∙ ap (λ n. audited (length heads) n size second) watched_are,
        ),
      ))

-- a result that is there is known
pub known : (size : ℕ) (P : Type 0)
    → (◌≡◌ {A = Result ℕ AuditError} (Ok size) (Err fault.OutOfMemory)) ⊎ P → P
known size P (inl memory) = absurd cc
known size P (inr is) = is
