-- The outcome of the chain of trust.
use Rattle.std.proofs.Common.{sym, ◌∙◌}
use Rattle.sig_program.proofs.ChainOutcomes.{failed-outcome, held-outcome}
use Rattle.sig_program.proofs.explain_verify.explain_request.Goals as goal

pub explain_entry-reply-requires-clause-outcome : goal.explain_entry-reply-requires-clause-outcome
explain_entry-reply-requires-clause-outcome c =
    held-outcome c.args.request.now c.in-Ok.offline c.in-Ok.ensures.links c.in-Ok.ensures.steps

pub explain_refusal-reply-requires-clause-outcome : goal.explain_refusal-reply-requires-clause-outcome
explain_refusal-reply-requires-clause-outcome c =
    failed-outcome c.args.request.now c.in-Err.error c.in-Some.link (sym c.link.ensures ∙ c.in-Some.is)
    c.in-Err.ensures.links c.in-Err.ensures.steps
