use Rattle.sig_verify.proofs.EntryLaws.{entry_kept_of, entry_linked}
use Rattle.sig_verify.proofs.log_entry.verify_log_entry.Goals as goal

pub returns-clause-links : goal.returns-clause-links
returns-clause-links g c =
    entry_linked (record { proofs = c.proofs.ensures; faults = c.proof_faults.ensures })
    (g.C.SignatureChecker.spki_accepts c.args.checker.now) c.args.log_keys.now c.args.entry.now c.judge_entry.result
    c.judge_entry.ensures.answer c.judge_entry.ensures.bytes c.are_owned_bytes.ensures c.are_optional_bytes.ensures

pub returns-clause-kept : goal.returns-clause-kept
returns-clause-kept g c =
    entry_kept_of (record { proofs = c.proofs.ensures; faults = c.proof_faults.ensures })
    (g.C.SignatureChecker.spki_accepts c.args.checker.now) c.args.log_keys.now c.args.entry.now c.judge_entry.result
    c.judge_entry.ensures.answer
