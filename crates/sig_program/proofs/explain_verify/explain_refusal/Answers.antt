-- The reply to a request for which this link fails first, and why.
use Rattle.std.proofs.Common.{inr, Err, subst, sym}
use Rattle.sig_program.proofs.Explanations.{explained-replied}
use Rattle.sig_program.proofs.VerifyReplies.{refused-verify}
use Rattle.sig_program.specs.Reply.{IsReply}
use Rattle.sig_program.specs.declared.command.Command.TheVariants as command
use Rattle.sig_program.specs.declared.explained.Explained.TheVariants.{Verify}
use Rattle.sig_program.proofs.explain_verify.explain_refusal.Goals as goal

pub returns : goal.returns
returns c = λ text is.
    explained-replied Verify text c.in_ok-plain.plain _ c.explained_by.result
    (subst (IsReply command.Verify text) (sym c.in_ok-plain.ensures)
    (refused-verify text c.args.request.now c.args.error.now c.args.link is c.requires.link c.requires.outcome.links))
    (inr (c.args.request.now, Err c.args.error.now, is, c.requires.outcome, c.in_ok-explanation.ensures))
    c.explained_by.ensures
