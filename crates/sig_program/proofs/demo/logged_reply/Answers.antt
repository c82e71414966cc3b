-- What `log` replies to the request.
use Rattle.sig_program.proofs.DemoLinks.{few_entries, logged_made}
use Rattle.sig_program.proofs.demo.logged_reply.Goals as goal

pub request-requires : goal.request-requires
request-requires c = few_entries c.args.log.now c.args.count c.requires.log c.requires.most

pub returns : goal.returns
returns c =
    logged_made c.args.log.now c.args.count c.in_ok-request.request c.as_slice.result.now c.log_reply.result
    c.requires.log c.requires.some c.as_slice.ensures c.in_ok-request.ensures.short c.in_ok-request.ensures.document
    c.in_ok-request.ensures.members c.in_ok-request.ensures.checkpoint c.log_reply.ensures
