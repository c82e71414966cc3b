-- The reply to a request, by the verdict on it.
use Rattle.std.proofs.Common.{subst}
use Rattle.sig_program.proofs.LogReplies.{logged-reply, refused-log}
use Rattle.sig_program.proofs.Replies.{refused-replied, vouched-replied}
use Rattle.sig_program.specs.Link.{IsLogVerdict}
use Rattle.sig_program.specs.Reply.{IsLoggedReply}
use Rattle.sig_request.specs.Request.{log_request}
use Rattle.sig_program.specs.declared.command.Command.TheVariants.{Log}
use Rattle.sig_program.proofs.log.reply_under.Goals as goal

pub returns-in-Some : goal.returns-in-Some
returns-in-Some c = λ text is.
    refused-replied Log log_request IsLogVerdict text c.args.request.now c.args.verdict c.refused.result is
    c.requires c.in-Some.link (refused-log text c.args.request.now c.in-Some.link) c.refused.ensures
    c.in-Some.is

pub returns-in-None : goal.returns-in-None
returns-in-None c = λ text is.
    vouched-replied Log log_request IsLogVerdict text c.args.request.now c.args.verdict c.logged_reply.result is
    c.requires (IsLoggedReply c.args.request.now) (logged-reply text c.args.request.now)
    c.logged_reply.ensures c.in-None.is

-- the last of the links holds
pub logged_reply-requires : goal.logged_reply-requires
logged_reply-requires c = (subst (IsLogVerdict c.args.request.now) c.in-None.is c.requires).1.1.1.1.0
