-- The reply to a request for which every link holds, and what was verified.
use Rattle.std.proofs.Common.{inr, Ok}
use Rattle.sig_program.proofs.Explanations.{explained-replied}
use Rattle.sig_program.proofs.VerifyReplies.{chain-included, verified-reply}
use Rattle.sig_program.specs.declared.explained.Explained.TheVariants.{Verify}
use Rattle.sig_program.proofs.explain_verify.explain_entry.Goals as goal

pub verified_reply-requires : goal.verified_reply-requires
verified_reply-requires c =
    chain-included c.args.request.now c.args.offline.now (inr c.requires.outcome.links) c.requires.kept

pub returns : goal.returns
returns c = λ text is.
    explained-replied Verify text c.in_ok-plain.plain _ c.explained_by.result
    (verified-reply text c.args.request.now c.args.offline.now c.in_ok-plain.plain is c.requires.outcome.links
    c.requires.kept c.in_ok-plain.ensures)
    (inr (c.args.request.now, Ok c.args.offline.now, is, c.requires.outcome, c.in_ok-explanation.ensures))
    c.explained_by.ensures
