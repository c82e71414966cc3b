-- The reply of `verify`, from what the chain of trust is.
use Rattle.std.proofs.Common.{◌≡◌, ℕ, inl, inr, List, Option, Some, None, Result, Ok, Err, IfOk}
use Rattle.std.proofs.Common.{ap, sym, subst, ◌∙◌}
use Rattle.sig_base.proofs.OptionSteps.{some_is}
use Rattle.sig_base.proofs.ResultSteps.{err_is}
use Rattle.sig_base.specs.Answers.{UnlessMemory}
use Rattle.sig_base.specs.declared.memory.OutOfMemory.{OutOfMemory}
use Rattle.sig_verify.specs.Judged.{Judged}
use Rattle.sig_verify.specs.Links.{chain_links}
use Rattle.sig_verify.specs.OfflineErrors.{link_of}
use Rattle.sig_verify.specs.declared.link.Link.{Link}
use Rattle.sig_verify.specs.declared.logged_entry.LoggedEntry.{LoggedEntry}
use Rattle.sig_verify.specs.declared.offline_error.OfflineError.{OfflineError}
use Rattle.sig_verify.specs.declared.offline_error.OfflineError.TheVariants.{OutOfMemory as Memory}
use Rattle.std.proofs.lemmas.Result.{IfOk-weaker}
use Rattle.sig_program.proofs.IncludedEntries.{every-included}
use Rattle.sig_program.proofs.Replies.{every-of_text, every-reply, first-of_text, first-reply, replied}
use Rattle.sig_request.proofs.RequestTexts.{one_request}
use Rattle.sig_program.specs.Reply.{IsEntryIn, IsReply, IsVerifiedReply, refusal_reply}
use Rattle.sig_program.specs.ProofOf.{IsProofOf}
use Rattle.sig_program.specs.VerifyLink.{HoldsOfVerify, inputs, outside, verify_links}
use Rattle.sig_request.specs.VerifyRequest.{verify_request}
use Rattle.sig_program.specs.declared.command.Command.TheVariants.{Verify}
use Rattle.sig_reply.specs.declared.reply.Reply.{Reply}
use Rattle.sig_request.specs.declared.verify_request.VerifyRequest.{VerifyRequest}
use Rattle.sig_request.specs.ReadFrom.{IsRequestOf}

-- every link of the chain holds
pub verified-reply : (text : List ℕ) (request : VerifyRequest) (offline : LoggedEntry) (reply : Reply)
    → IsRequestOf verify_request text request → Judged {A = LoggedEntry} (HoldsOfVerify request) chain_links (Ok offline)
    → IsEntryIn request offline → IsVerifiedReply request offline reply → IsReply Verify text reply
verified-reply text request offline reply is judged kept made =
    every-reply Verify text reply (ap (λ (r : Reply). r.status) made.2)
    (λ other other_is.
    let same = one_request verify_request text request other is other_is in (
      offline,
      subst (λ (r : VerifyRequest). IsEntryIn r offline) same kept,
      subst (λ (r : VerifyRequest). IsVerifiedReply r offline reply) same made,
    ))
    (every-of_text (IsRequestOf verify_request text) HoldsOfVerify request verify_links is (tt, judged))

-- the link of the error is the first that fails
pub refused-verify : (text : List ℕ) (request : VerifyRequest) (error : OfflineError) (link : Link)
    → IsRequestOf verify_request text request → link_of error ≡ Some link
    → Judged {A = LoggedEntry} (HoldsOfVerify request) chain_links (Err error) → IsReply Verify text (refusal_reply link)
refused-verify text request error link is named judged =
    let same : judged.0 ≡ link = some_is judged.0 link (sym judged.1 ∙ named) in
    subst (λ (l : Link). IsReply Verify text (refusal_reply l)) same
    (first-reply Verify text judged.0 (first-of_text (IsRequestOf verify_request text) HoldsOfVerify
    (one_request verify_request text) request
    verify_links judged.0 is (inr (tt, judged.2))))

-- ---- the replies of a call

-- what the chain of trust says of a request
abbrev pub IsChainOf : VerifyRequest → Result LoggedEntry OfflineError → Type 0
IsChainOf request r = UnlessMemory Memory r (Judged (HoldsOfVerify request) chain_links r)

no_memory : (offline : LoggedEntry) → ◌≡◌ {A = Result LoggedEntry OfflineError} (Ok offline) (Err Memory) → ⊥
no_memory offline e = cc

pub chain_held : (request : VerifyRequest) (offline : LoggedEntry) → IsChainOf request (Ok offline)
    → Judged {A = LoggedEntry} (HoldsOfVerify request) chain_links (Ok offline)
chain_held request offline (inl memory) = absurd (no_memory offline memory)
chain_held request offline (inr judged) = judged

no_link : (link : Link) → ◌≡◌ {A = Option Link} None (Some link) → ⊥
no_link link e = cc

pub chain_failed : (request : VerifyRequest) (error : OfflineError) (link : Link) → link_of error ≡ Some link
    → IsChainOf request (Err error) → Judged {A = LoggedEntry} (HoldsOfVerify request) chain_links (Err error)
chain_failed request error link named (inl memory) =
    absurd (no_link link (subst (λ (e : OfflineError). link_of e ≡ Some link) (err_is error Memory memory) named))
chain_failed request error link named (inr judged) = judged

-- there is a proof of the logged body
pub chain-included : (request : VerifyRequest) (offline : LoggedEntry) → IsChainOf request (Ok offline)
    → IsEntryIn request offline → IsProofOf offline.body offline.proof
chain-included request offline chain kept =
    every-included (outside request) (inputs request) offline (chain_held request offline chain) kept

module _ (text : List ℕ) (request : VerifyRequest) (r : Result Reply OutOfMemory)
    (is : IsRequestOf verify_request text request) where
  pub verified-replied : (offline : LoggedEntry) → IfOk r (IsVerifiedReply request offline) → IsChainOf request (Ok offline)
      → IsEntryIn request offline → IfOk r (IsReply Verify text)
  verified-replied offline made chain kept =
      IfOk-weaker r (IsVerifiedReply request offline) (IsReply Verify text)
      (λ reply. verified-reply text request offline reply is (chain_held request offline chain) kept) made

  pub refused-verify-replied : (error : OfflineError) (link : Link) → link_of error ≡ Some link
      → IfOk r (λ reply. reply ≡ refusal_reply link) → IsChainOf request (Err error) → IfOk r (IsReply Verify text)
  refused-verify-replied error link named made chain =
      replied Verify text (refusal_reply link) r made (refused-verify text request error link is named
      (chain_failed request error link named chain))
