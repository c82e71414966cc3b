-- Something is wrong with a text that is not a request.
use Rattle.std.proofs.Common.{inl}
use Rattle.sig_program.proofs.Explanations.{explained-replied, its-fault}
use Rattle.sig_program.proofs.Replies.{unread-reply}
use Rattle.sig_program.specs.Reply.{refusal_reply}
use Rattle.sig_program.specs.declared.command.Command.TheVariants as command
use Rattle.sig_program.specs.declared.explained.Explained.TheVariants.{Verify}
use Rattle.sig_request_fault.specs.RequestTable.{verify_table}
use Rattle.sig_verify.specs.declared.link.Link.TheVariants.{Request}
use Rattle.sig_explain_log.specs.Request.{request_tree}
use Rattle.sig_program.proofs.explain_verify.explain_fault.Goals as goal

pub returns : goal.returns
returns c =
    explained-replied Verify c.args.text.now (refusal_reply Request) (request_tree c.in-Some.fault) c.refused_text.result
    (unread-reply command.Verify c.args.text.now (λ holds. c.requires holds.0 holds.1))
    (inl (its-fault verify_table c.args.text.now c.in_ok-fault.field-0 c.in-Some.fault
    c.in_ok-fault.ensures.value c.in-Some.is))
    c.refused_text.ensures

pub unreachable-requires : goal.unreachable-requires
unreachable-requires c =
    let its = c.in_ok-fault.ensures.request.0 c.in-None.is in c.requires its.0 its.1
