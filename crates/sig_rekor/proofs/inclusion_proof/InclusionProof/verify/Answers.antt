-- The answer is Ok if and only if the log vouches for the entry.
use Rattle.sig_key.specs.Key.{key_accepts}
use Rattle.sig_rekor.proofs.VerifyLaws.{vouched_ok, accepted_only}
use Rattle.sig_rekor.proofs.inclusion_proof.InclusionProof.verify.Goals as goal

pub returns-clause-ok : goal.returns-clause-ok
returns-clause-ok g c =
    vouched_ok (key_accepts (g.C.SignatureChecker.spki_accepts c.args.checker.now) c.args.rekor_key.now)
    c.args.entry.now c.args.self.now c.check.result c.check.ensures

pub returns-clause-only : goal.returns-clause-only
returns-clause-only g c =
    accepted_only (key_accepts (g.C.SignatureChecker.spki_accepts c.args.checker.now) c.args.rekor_key.now)
    c.args.entry.now c.args.self.now c.check.result c.check.ensures
