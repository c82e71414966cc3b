use Rattle.sig_verify.proofs.EntryCauses.{note_match_refusal}
use Rattle.sig_verify.proofs.log_entry.check_note_match.Goals as goal

pub proof_error-requires : goal.proof_error-requires
proof_error-requires c =
    note_match_refusal c.args.checkpoint.now c.args.proof.now.root_hash c.args.proof.now.tree_size c.in-Err.error
    c.in-Err.ensures.answer
