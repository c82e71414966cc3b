use Rattle.sig_verify.proofs.EntryCauses.{audit_path_refusal}
use Rattle.sig_verify.proofs.log_entry.check_inclusion.Goals as goal

pub proof_error-requires : goal.proof_error-requires
proof_error-requires c = audit_path_refusal _ c.args.proof.now c.in-Err.error c.in-Err.ensures.answer
