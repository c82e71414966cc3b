-- The outcome of the chain of trust of a request, by its links and by its steps.
use Rattle.std.proofs.Common.{◌≡◌, inl, inr, Option, Some, None, Result, Ok, Err, subst}
use Rattle.sig_base.proofs.ResultSteps.{err_is}
use Rattle.sig_base.specs.Answers.{UnlessMemory}
use Rattle.sig_program.proofs.VerifyReplies.{IsChainOf, chain_failed, chain_held}
use Rattle.sig_program.specs.Explanation.{IsOutcome}
use Rattle.sig_program.specs.VerifyLink.{IsOfflineOutcome}
use Rattle.sig_request.specs.declared.verify_request.VerifyRequest.{VerifyRequest}
use Rattle.sig_verify.specs.OfflineErrors.{link_of}
use Rattle.sig_verify.specs.OfflineVerdict.{Outcome}
use Rattle.sig_verify.specs.declared.link.Link.{Link}
use Rattle.sig_verify.specs.declared.logged_entry.LoggedEntry.{LoggedEntry}
use Rattle.sig_verify.specs.declared.offline_error.OfflineError.{OfflineError}
use Rattle.sig_verify.specs.declared.offline_error.OfflineError.TheVariants.{OutOfMemory as Memory}

-- by the steps, unless memory ran out
abbrev pub AreStepsOf : VerifyRequest → Outcome → Type 0
AreStepsOf request r = UnlessMemory Memory r (IsOfflineOutcome request r)

no_memory : (entry : LoggedEntry) → ◌≡◌ {A = Outcome} (Ok entry) (Err Memory) → ⊥
no_memory entry e = cc

no_link : (link : Link) → ◌≡◌ {A = Option Link} None (Some link) → ⊥
no_link link e = cc

-- of a value, and of an error of a link, memory did not run out
held_steps : (request : VerifyRequest) (entry : LoggedEntry) → AreStepsOf request (Ok entry)
    → IsOfflineOutcome request (Ok entry)
held_steps request entry (inl memory) = absurd (no_memory entry memory)
held_steps request entry (inr steps) = steps

failed_steps : (request : VerifyRequest) (error : OfflineError) (link : Link) → link_of error ≡ Some link
    → AreStepsOf request (Err error) → IsOfflineOutcome request (Err error)
failed_steps request error link named (inl memory) =
    absurd (no_link link (subst (λ (e : OfflineError). link_of e ≡ Some link) (err_is error Memory memory) named))
failed_steps request error link named (inr steps) = steps

pub held-outcome : (request : VerifyRequest) (entry : LoggedEntry) → IsChainOf request (Ok entry)
    → AreStepsOf request (Ok entry) → IsOutcome request (Ok entry)
held-outcome request entry chain steps =
    record { links = chain_held request entry chain; steps = held_steps request entry steps }

pub failed-outcome : (request : VerifyRequest) (error : OfflineError) (link : Link) → link_of error ≡ Some link
    → IsChainOf request (Err error) → AreStepsOf request (Err error) → IsOutcome request (Err error)
failed-outcome request error link named chain steps =
    record { links = chain_failed request error link named chain; steps = failed_steps request error link named steps }
