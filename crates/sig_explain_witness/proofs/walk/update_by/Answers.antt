-- What is shown of an update, by its result.
use Rattle.sig_explain_witness.proofs.Explanations.{of-refused, of-taken}
use Rattle.sig_witness.specs.Updates.{update_of}
use Rattle.sig_explain_witness.proofs.walk.update_by.Goals as goal

pub returns-in-Ok : goal.returns-in-Ok
returns-in-Ok c =
    rw c.as_slice.ensures at
    (of-taken c.args.accepted.now c.args.text.now
    (update_of c.args.checkpoint.now c.args.text.now.old_size c.as_slice.result.now) c.args.witness.now
    c.update.new.self c.args.left.now c.taken_document.result c.in-Ok.ensures.found c.in-Ok.ensures.step
    c.taken_document.ensures)

pub returns-in-Err : goal.returns-in-Err
returns-in-Err c =
    rw c.as_slice.ensures at
    (of-refused c.args.accepted.now c.args.text.now
    (update_of c.args.checkpoint.now c.args.text.now.old_size c.as_slice.result.now) c.args.witness.now
    c.update.new.self c.args.left.now c.in-Err.error c.left_after.result c.fault_document.result
    c.in-Err.ensures.found c.in-Err.ensures.step c.in-Err.ensures.err c.left_after.ensures
    c.fault_document.ensures.tree c.fault_document.ensures.known)
