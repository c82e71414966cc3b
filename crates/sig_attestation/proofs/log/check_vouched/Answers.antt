use Rattle.sig_key.specs.Key.{key_accepts}
use Rattle.sig_attestation.proofs.LogRefusals.{is_log_refusal}
use Rattle.sig_attestation.proofs.log.check_vouched.Goals as goal

pub log_refusal-requires : goal.log_refusal-requires
log_refusal-requires g c =
    is_log_refusal (key_accepts (g.C.SignatureChecker.spki_accepts c.args.checker.now) c.args.key.now) c.args.entry.now
    c.in-Err.error c.in-Err.ensures
