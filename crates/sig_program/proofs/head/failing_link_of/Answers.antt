-- The checkpoint has the one reading that was found, or none.
use Rattle.sig_program.proofs.HeadVerdicts.{refused-verdict, read-verdict}
use Rattle.sig_program.proofs.head.failing_link_of.Goals as goal

pub returns-in-Ok : goal.returns-in-Ok
returns-in-Ok c =
    read-verdict c.args.head.now c.args.size c.args.root.now c.as_str.result.now c.in-Ok.checkpoint
    c.failing_link_under-link.result c.as_str.ensures c.in-Ok.ensures.found c.in-Ok.ensures.only
    c.failing_link_under-link.ensures

pub returns-in-Err-DecodeError : goal.returns-in-Err-DecodeError
returns-in-Err-DecodeError c =
    refused-verdict c.args.head.now c.args.size c.args.root.now c.as_str.result.now c.in-Err-DecodeError.field-0-0
    c.as_str.ensures
    (rw c.in-Err-DecodeError.field-0-is at c.in-Err-DecodeError.ensures.only)
