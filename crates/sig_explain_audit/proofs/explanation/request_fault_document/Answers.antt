-- What is wrong with a text that is not a request.
use Rattle.sig_explain_audit.proofs.Explanations.{no-fault, of-fault}
use Rattle.sig_explain_audit.proofs.explanation.request_fault_document.Goals as goal

pub returns : goal.returns
returns c =
    of-fault c.args.text.now c.in_ok-fault.field-0 c.in-Some.fault c.request_explanation-document.result
    c.in_ok-fault.ensures.value c.in-Some.is c.request_explanation-document.ensures

pub unreachable-requires : goal.unreachable-requires
unreachable-requires c =
    no-fault c.args.text.now c.in_ok-fault.field-0 c.in_default.is c.in_ok-fault.ensures.request c.requires
