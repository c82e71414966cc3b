-- The request over the log of this number of entries.
use Rattle.sig_program.proofs.DemoLinks.{document_made, few_entries, holds_made, links_made, members_made}
use Rattle.sig_program.proofs.demo.demo_request.Goals as goal

pub request-request-requires : goal.request-request-requires
request-request-requires c = few_entries c.in_ok-log.log c.args.count c.in_ok-log.ensures c.requires.most

pub returns-clause-document : goal.returns-clause-document
returns-clause-document c =
    document_made c.in_ok-log.log c.args.count c.request-request.result c.in_ok-log.ensures
    c.request-request.ensures.document

pub returns-clause-members : goal.returns-clause-members
returns-clause-members c =
    members_made c.in_ok-log.log c.args.count c.request-request.result c.in_ok-log.ensures
    c.request-request.ensures.members

pub returns-clause-links : goal.returns-clause-links
returns-clause-links c =
    links_made c.in_ok-log.log c.args.count c.request-request.result c.in_ok-log.ensures c.requires.some
    c.request-request.ensures.checkpoint

pub returns-clause-holds : goal.returns-clause-holds
returns-clause-holds c =
    holds_made c.in_ok-log.log c.args.count c.request-request.result c.in_ok-log.ensures c.requires.some
    c.request-request.ensures.short c.request-request.ensures.document c.request-request.ensures.members
    c.request-request.ensures.checkpoint
