-- The answer is Ok if and only if the log vouches for the entry.
use Rattle.sig_key.specs.Key.{key_accepts}
use Rattle.sig_rekor_models.specs.LogEntry.{seen_entry}
use Rattle.sig_rekor_models.proofs.VouchedEntries.{vouched_ok, accepted_only}
use Rattle.sig_rekor_models.proofs.log_entry.LogEntry.verify_inclusion.Goals as goal

pub returns-clause-ok : goal.returns-clause-ok
returns-clause-ok g c =
    vouched_ok (key_accepts (g.C.SignatureChecker.spki_accepts c.args.checker.now) c.args.rekor_key.now)
    (seen_entry c.args.self.now) c.check.result c.check.ensures

pub returns-clause-only : goal.returns-clause-only
returns-clause-only g c =
    accepted_only (key_accepts (g.C.SignatureChecker.spki_accepts c.args.checker.now) c.args.rekor_key.now)
    (seen_entry c.args.self.now) c.check.result c.check.ensures
