-- The reply to a request, by the verdict on it.
use Rattle.std.proofs.Common.{subst}
use Rattle.sig_program.proofs.ConsistencyReplies.{consistent-reply, refused-consistency}
use Rattle.sig_program.proofs.Replies.{refused-replied, vouched-replied}
use Rattle.sig_program.specs.ConsistencyLink.{IsConsistencyVerdict}
use Rattle.sig_request.specs.ConsistencyRequest.{consistency_request}
use Rattle.sig_program.specs.Reply.{IsConsistentReply}
use Rattle.sig_program.specs.declared.command.Command.TheVariants.{Consistency}
use Rattle.sig_program.proofs.consistency.reply_under.Goals as goal

pub returns-in-Some : goal.returns-in-Some
returns-in-Some c = λ text is.
    refused-replied Consistency consistency_request IsConsistencyVerdict text c.args.request.now
    c.args.verdict c.refused.result is c.requires c.in-Some.link
    (refused-consistency text c.args.request.now c.in-Some.link) c.refused.ensures c.in-Some.is

pub returns-in-None : goal.returns-in-None
returns-in-None c = λ text is.
    vouched-replied Consistency consistency_request IsConsistencyVerdict text c.args.request.now
    c.args.verdict c.grown_reply.result is c.requires (IsConsistentReply c.args.request.now)
    (consistent-reply text c.args.request.now) c.grown_reply.ensures c.in-None.is

-- the last of the links holds
pub grown_reply-requires : goal.grown_reply-requires
grown_reply-requires c = (subst (IsConsistencyVerdict c.args.request.now) c.in-None.is c.requires).1.1.1.1.0
