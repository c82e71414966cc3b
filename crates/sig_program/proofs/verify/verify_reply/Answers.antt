-- The reply to what was read, by what the chain of trust is; and all links of `verify` are the request and the trust
-- chain.
use Rattle.std.proofs.Common.{sym}
use Rattle.sig_program.proofs.Replies.{its-request, unread-replied}
use Rattle.sig_program.proofs.VerifyChains.{all_verify_links_are_the_trust_chain}
use Rattle.sig_program.proofs.VerifyReplies.{chain-included, refused-verify-replied, verified-replied}
use Rattle.sig_request.specs.VerifyRequest.{verify_request}
use Rattle.sig_program.specs.declared.command.Command.TheVariants.{Verify}
use Rattle.sig_program.proofs.verify.verify_reply.Goals as goal

pub returns-in_default-clause-reply : goal.returns-in_default-clause-reply
returns-in_default-clause-reply c =
    unread-replied Verify verify_request c.args.request.now c.in_ok-request.field-0 c.refused.result
    (λ holds. (holds.0, holds.1)) c.refused.ensures c.in_default.is c.in_ok-request.ensures

pub verified_reply-reply-requires : goal.verified_reply-reply-requires
verified_reply-reply-requires c =
    chain-included c.in-Some.request c.in-Ok.logged c.in-Ok.ensures.links c.in-Ok.ensures.kept

pub returns-in-Ok-clause-reply : goal.returns-in-Ok-clause-reply
returns-in-Ok-clause-reply c =
    verified-replied c.args.request.now c.in-Some.request c.verified_reply-reply.result
    (its-request verify_request c.args.request.now c.in_ok-request.field-0 c.in-Some.request c.in-Some.is
    c.in_ok-request.ensures)
    c.in-Ok.logged c.verified_reply-reply.ensures c.in-Ok.ensures.links c.in-Ok.ensures.kept

pub returns-in-Some-link-clause-reply : goal.returns-in-Some-link-clause-reply
returns-in-Some-link-clause-reply c =
    refused-verify-replied c.args.request.now c.in-Some.request c.refused-in-Some-link.result
    (its-request verify_request c.args.request.now c.in_ok-request.field-0 c.in-Some.request c.in-Some.is
    c.in_ok-request.ensures)
    c.in-Err.error c.in-Some-link.link (sym c.in-Some-link.ensures) c.refused-in-Some-link.ensures
    c.in-Err.ensures.links

pub returns-in_err-request-clause-chain : goal.returns-in_err-request-clause-chain
returns-in_err-request-clause-chain c = all_verify_links_are_the_trust_chain c.args.request.now

pub returns-in_default-clause-chain : goal.returns-in_default-clause-chain
returns-in_default-clause-chain c = all_verify_links_are_the_trust_chain c.args.request.now

pub returns-in-Ok-clause-chain : goal.returns-in-Ok-clause-chain
returns-in-Ok-clause-chain c = all_verify_links_are_the_trust_chain c.args.request.now

pub returns-in-Some-link-clause-chain : goal.returns-in-Some-link-clause-chain
returns-in-Some-link-clause-chain c = all_verify_links_are_the_trust_chain c.args.request.now

pub returns-in-None-clause-chain : goal.returns-in-None-clause-chain
returns-in-None-clause-chain c = all_verify_links_are_the_trust_chain c.args.request.now
