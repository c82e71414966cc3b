-- The explanation of a request, by the logs that it starts from.
use Rattle.std.proofs.Common.{subst}
use Rattle.sig_explain_witness.proofs.Explanations.{of-no-start, of-start}
use Rattle.sig_explain_witness.specs.Start.{IsStartAnswer}
use Rattle.sig_explain_witness.proofs.explanation.request_document.Goals as goal

pub returns-in-Ok : goal.returns-in-Ok
returns-in-Ok c =
    of-start c.args.request.now c.in-Ok.witness c.updates_document-document.result
    (subst (IsStartAnswer c.args.request.now) c.in-Ok.is c.in_ok-witness.ensures) c.updates_document-document.ensures

pub returns-in-Err : goal.returns-in-Err
returns-in-Err c =
    of-no-start c.args.request.now c.in-Err.why c.no_start_document.result
    (subst (IsStartAnswer c.args.request.now) c.in-Err.is c.in_ok-witness.ensures) c.no_start_document.ensures
