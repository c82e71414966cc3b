-- The reply of `questions audit`, from what its request is and whether the list has room.
use Rattle.std.proofs.Common.{◌≡◌, ◌≤◌, ◌+◌, ◌∙◌, ℕ, List, ◌++◌, length, codes, inl, inr, Option, None, Result, IfOk, ap, refl, subst, sym}
use Rattle.std.proofs.lemmas.Result.{IfOk-weaker}
use Rattle.sig_audit.specs.declared.heads.AuditHead.{AuditHead}
use Rattle.sig_base.specs.declared.memory.OutOfMemory.{OutOfMemory}
use Rattle.sig_reply.proofs.FittingLists.{wherever_put}
use Rattle.sig_reply.specs.Reply.{IsListingOf, listed, no_request, refusal_at}
use Rattle.sig_reply.specs.RowsText.{FitsBeside, IsReadBack, rows_text}
use Rattle.sig_reply.specs.declared.reply.Reply.{Reply}
use Rattle.sig_request.specs.AuditRequest.{audit_request}
use Rattle.sig_request.specs.Limit.{most_bytes}
use Rattle.sig_request.specs.ReadFrom.{IsReadFrom, IsRequestOf}
use Rattle.sig_request.specs.declared.audit_request.AuditRequest.{AuditRequest}
use Rattle.sig_audit_command.proofs.AuditReplies.{carried, long-request, no-request, no_unread_link, one_unread_link, unread-head}
use Rattle.sig_audit_command.proofs.Replies.{every-reply, first-reply}
use Rattle.sig_audit_command.specs.Heads.{AreHeads, IsFirstUnread}
use Rattle.sig_audit_command.specs.Link.{IsReadAs, IsUnread, link_refusal}
use Rattle.sig_audit_command.specs.Questions.{HasNoRoom, HasQuestions, IsAuditQuestionsReply, IsFirstUnasked, ListsQuestions}
use Rattle.sig_audit_command.specs.Questions.{audit_rows}
use Rattle.sig_audit_command.specs.Suffice.{AuditListsAreGivenBack}
use Rattle.sig_audit_command.specs.declared.link.AuditLink.{AuditLink}
use Rattle.sig_audit_command.specs.declared.link.AuditLink.TheVariants.{Request, Checkpoint}

-- ---- one link fails first

no-room : (text : List ℕ) → HasQuestions text → HasNoRoom text → ⊥
no-room text every past =
    past.past (carried (λ r hs. FitsBeside text (audit_rows r hs)) text every.request past.request every.heads past.heads
    every.is past.is every.fits)

never : (text : List ℕ) (link : AuditLink) → HasQuestions text → IsFirstUnasked text link → ⊥
never text link every (inl unread) = no_unread_link text every.request every.heads link every.is unread
never text link every (inr (_, past)) = no-room text every past

one_failing : (text : List ℕ) (a b : AuditLink) → IsFirstUnasked text a → IsFirstUnasked text b → a ≡ b
one_failing text a b (inl p) (inl q) = one_unread_link text a b p q
one_failing text a b (inl p) (inr (_, past)) = absurd (no_unread_link text past.request past.heads a past.is p)
one_failing text a b (inr (_, past)) (inl q) = absurd (no_unread_link text past.request past.heads b past.is q)
one_failing text a b (inr p) (inr q) = p.0 ∙ sym q.0

first-asked : (text : List ℕ) (link : AuditLink) → IsFirstUnasked text link → (reply : Reply)
    → reply ≡ link_refusal link → IsAuditQuestionsReply text reply
first-asked text link first =
    first-reply (HasQuestions text) (IsFirstUnasked text) (ListsQuestions text) link first
    (λ other is. one_failing text other link is first) (λ every. never text link every first)

-- ---- the replies

listing : (text : List ℕ) (request : AuditRequest) (heads : List AuditHead) → IsReadAs text request heads
    → (reply : Reply) → IsListingOf text (audit_rows request heads) reply → IsAuditQuestionsReply text reply
listing text request heads is reply (inl (fits, back, made)) =
    let every : HasQuestions text = record { request = request; heads = heads; is = is; fits = fits } in
    every-reply (HasQuestions text) (IsFirstUnasked text) (ListsQuestions text) reply
    (ap (λ (r : Reply). r.status) made)
    (λ other xs other_is. carried
    (λ r hs. IsReadBack (audit_rows r hs) × (reply ≡ listed (rows_text (audit_rows r hs)))) text request other heads xs is
    other_is (back, made))
    every (λ link first. never text link every first)
listing text request heads is reply (inr (past, made)) =
    first-asked text Request
    (inr (refl, record { request = request; heads = heads; is = is; past = past })) reply made

pub listing-replied : (text : List ℕ) (request : AuditRequest) (heads : List AuditHead) (r : Result Reply OutOfMemory)
    → IsRequestOf audit_request text request → AreHeads request.heads heads
    → IfOk r (IsListingOf text (audit_rows request heads)) → IfOk r (IsAuditQuestionsReply text)
listing-replied text request heads r is read =
    IfOk-weaker r (IsListingOf text (audit_rows request heads)) (IsAuditQuestionsReply text)
    (listing text request heads (record { meant = is; read = read }))

pub unread-asked : (text : List ℕ) (request : AuditRequest) (place : ℕ) (r : Result Reply OutOfMemory)
    → IsRequestOf audit_request text request → IsFirstUnread request.heads place
    → IfOk r (λ reply. reply ≡ refusal_at (codes "checkpoint") place) → IfOk r (IsAuditQuestionsReply text)
unread-asked text request place r is first =
    IfOk-weaker r (λ reply. reply ≡ refusal_at (codes "checkpoint") place) (IsAuditQuestionsReply text)
    (first-asked text (Checkpoint place) (inl (unread-head text request place is first)))

pub no-request-asked : (text : List ℕ) (found : Option AuditRequest) (r : Result Reply OutOfMemory)
    → IfOk r (λ reply. reply ≡ no_request) → found ≡ None → IsReadFrom audit_request text found
    → IfOk r (IsAuditQuestionsReply text)
no-request-asked text found r made none read =
    IfOk-weaker r (λ reply. reply ≡ no_request) (IsAuditQuestionsReply text)
    (first-asked text Request (inl (no-request text found none read))) made

pub long-asked : (text : List ℕ) → most_bytes + 1 ≤ length text → IsAuditQuestionsReply text no_request
long-asked text long = first-asked text Request (inl (long-request text long)) no_request refl

-- ---- a list that is written can be given back

pub lists_given_back : AuditListsAreGivenBack
lists_given_back front after list reply is lists =
    let every = is.succeeds.0 (ap (λ (r : Reply). r.status) lists) in
    let made = is.vouched every every.request every.heads every.is in
    wherever_put front after list (audit_rows every.request every.heads) (sym lists ∙ made.1) every.fits
