-- The reply of `log`, from what its request is and which link fails first.
use Rattle.std.proofs.Common.{ℕ, List, Some, None, ap, subst}
use Rattle.sig_verify.specs.declared.link.Link.{Link}
use Rattle.sig_program.proofs.Replies.{every-of_text, every-reply, first-of_text, first-reply}
use Rattle.sig_request.proofs.RequestTexts.{one_request}
use Rattle.sig_program.specs.Link.{log_links, HoldsOfLog, IsLogVerdict}
use Rattle.sig_request.specs.ReadFrom.{IsRequestOf}
use Rattle.sig_program.specs.Reply.{IsLoggedReply, IsReply, refusal_reply}
use Rattle.sig_request.specs.Request.{log_request}
use Rattle.sig_program.specs.declared.command.Command.TheVariants.{Log}
use Rattle.sig_reply.specs.declared.reply.Reply.{Reply}
use Rattle.sig_request.specs.declared.request.LogRequest.{LogRequest}

pub logged-reply : (text : List ℕ) (request : LogRequest) (reply : Reply) → IsRequestOf log_request text request
    → IsLogVerdict request None → IsLoggedReply request reply → IsReply Log text reply
logged-reply text request reply is every made =
    every-reply Log text reply (ap (λ (r : Reply). r.status) made.2)
    (λ other other_is. subst (λ (r : LogRequest). IsLoggedReply r reply)
    (one_request log_request text request other is other_is) made)
    (every-of_text (IsRequestOf log_request text) HoldsOfLog request log_links is every)

pub refused-log : (text : List ℕ) (request : LogRequest) (link : Link) → IsRequestOf log_request text request
    → IsLogVerdict request (Some link) → IsReply Log text (refusal_reply link)
refused-log text request link is first =
    first-reply Log text link
    (first-of_text (IsRequestOf log_request text) HoldsOfLog (one_request log_request text) request log_links link is
    first)
