-- The result of the definition is what RFC 6962's words say.
use Rattle.sig_timestamp.proofs.VouchedLaws.{comes_genuine, comes_long, comes_unknown, comes_forged}
use Rattle.sig_timestamp.proofs.signed.verify_sct.Goals as goal

pub returns-clause-accepted : goal.returns-clause-accepted
returns-clause-accepted g c =
    comes_genuine (g.C.SignatureChecker.point_accepts c.args.checker.now) c.args.sct.now c.args.keyring.now
    c.check.result c.check.ensures

pub returns-clause-serialization : goal.returns-clause-serialization
returns-clause-serialization g c =
    comes_long (g.C.SignatureChecker.point_accepts c.args.checker.now) c.args.sct.now c.args.keyring.now c.check.result
    c.check.ensures

pub returns-clause-key_not_found : goal.returns-clause-key_not_found
returns-clause-key_not_found g c =
    comes_unknown (g.C.SignatureChecker.point_accepts c.args.checker.now) c.args.sct.now c.args.keyring.now
    c.check.result c.check.ensures

pub returns-clause-verification_failed : goal.returns-clause-verification_failed
returns-clause-verification_failed g c =
    comes_forged (g.C.SignatureChecker.point_accepts c.args.checker.now) c.args.sct.now c.args.keyring.now
    c.check.result c.check.ensures
