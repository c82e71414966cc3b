use Rattle.sig_key.specs.Key.{key_accepts}
use Rattle.sig_verify.proofs.EntryCauses.{note_key_refusal}
use Rattle.sig_verify.proofs.log_entry.check_note_key.Goals as goal

pub proof_error-requires : goal.proof_error-requires
proof_error-requires g c =
    note_key_refusal (key_accepts (g.C.SignatureChecker.spki_accepts c.args.inputs.now.checker.now) c.args.key.now)
    c.args.checkpoint.now c.in-Err.error c.in-Err.ensures.answer
