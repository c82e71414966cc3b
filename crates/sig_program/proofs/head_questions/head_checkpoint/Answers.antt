-- The checkpoint has the one reading that was found, or none.
use Rattle.sig_program.proofs.HeadQuestionReplies.{no-checkpoint, one-checkpoint}
use Rattle.sig_program.proofs.head_questions.head_checkpoint.Goals as goal

pub returns-in-Ok : goal.returns-in-Ok
returns-in-Ok c =
    one-checkpoint c.args.head.now c.as_str.result.now c.in-Ok.checkpoint c.as_str.ensures c.in-Ok.ensures.found
    c.in-Ok.ensures.only

pub returns-in-Err-DecodeError : goal.returns-in-Err-DecodeError
returns-in-Err-DecodeError c =
    no-checkpoint c.args.head.now c.as_str.result.now c.in-Err-DecodeError.field-0-0 c.as_str.ensures
    (rw c.in-Err-DecodeError.field-0-is at c.in-Err-DecodeError.ensures.only)
