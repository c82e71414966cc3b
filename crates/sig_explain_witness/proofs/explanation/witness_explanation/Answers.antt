-- The explanation of what was read.
use Rattle.sig_explain_witness.proofs.Explanations.{its-request, none-read, of-request}
use Rattle.sig_explain_witness.proofs.explanation.witness_explanation.Goals as goal

pub request_fault_document-requires : goal.request_fault_document-requires
request_fault_document-requires c =
    none-read c.args.text.now c.in_ok-request.field-0 c.in_default.is c.in_ok-request.ensures

pub returns : goal.returns
returns c =
    of-request c.args.text.now c.in-Some.request c.request_document-document.result
    (its-request c.args.text.now c.in_ok-request.field-0 c.in-Some.request c.in-Some.is c.in_ok-request.ensures)
    c.request_document-document.ensures
