-- The reply of `consistency`, from what its request is and which link fails first.
use Rattle.std.proofs.Common.{ℕ, List, Some, None, ap, subst}
use Rattle.sig_verify.specs.declared.link.Link.{Link}
use Rattle.sig_program.proofs.Replies.{every-of_text, every-reply, first-of_text, first-reply}
use Rattle.sig_request.proofs.RequestTexts.{one_request}
use Rattle.sig_program.specs.ConsistencyLink.{consistency_links, HoldsOfConsistency, IsConsistencyVerdict}
use Rattle.sig_request.specs.ConsistencyRequest.{consistency_request}
use Rattle.sig_request.specs.ReadFrom.{IsRequestOf}
use Rattle.sig_program.specs.Reply.{IsConsistentReply, IsReply, refusal_reply}
use Rattle.sig_program.specs.declared.command.Command.TheVariants.{Consistency}
use Rattle.sig_request.specs.declared.consistency_request.ConsistencyRequest.{ConsistencyRequest}
use Rattle.sig_reply.specs.declared.reply.Reply.{Reply}

pub consistent-reply : (text : List ℕ) (request : ConsistencyRequest) (reply : Reply)
    → IsRequestOf consistency_request text request → IsConsistencyVerdict request None
    → IsConsistentReply request reply → IsReply Consistency text reply
consistent-reply text request reply is every made =
    every-reply Consistency text reply (ap (λ (r : Reply). r.status) made.2)
    (λ other other_is. subst (λ (r : ConsistencyRequest). IsConsistentReply r reply)
    (one_request consistency_request text request other is other_is) made)
    (every-of_text (IsRequestOf consistency_request text) HoldsOfConsistency request consistency_links is every)

pub refused-consistency : (text : List ℕ) (request : ConsistencyRequest) (link : Link)
    → IsRequestOf consistency_request text request → IsConsistencyVerdict request (Some link)
    → IsReply Consistency text (refusal_reply link)
refused-consistency text request link is first =
    first-reply Consistency text link
    (first-of_text (IsRequestOf consistency_request text) HoldsOfConsistency (one_request consistency_request text)
    request consistency_links link is first)
