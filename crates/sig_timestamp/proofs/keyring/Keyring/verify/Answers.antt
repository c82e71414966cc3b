-- The result of the definition, in words.
use Rattle.std.proofs.Common.{true, false, sym, ◌∙◌}
use Rattle.sig_timestamp.proofs.VouchedLaws.{vouch_signed, vouch_unknown}
use Rattle.sig_timestamp.proofs.keyring.Keyring.verify.Goals as goal

pub returns-clause-accepted : goal.returns-clause-accepted
returns-clause-accepted g c =
    let law = vouch_signed (g.C.SignatureChecker.point_accepts c.args.checker.now) c.args.self.now c.args.key_id.now
    c.args.message.now c.args.signature.now true in
    ((λ e. law.0 (sym c.check.ensures ∙ e)), (λ is. c.check.ensures ∙ law.1 is))

pub returns-clause-key_not_found : goal.returns-clause-key_not_found
returns-clause-key_not_found g c =
    let law = vouch_unknown (g.C.SignatureChecker.point_accepts c.args.checker.now) c.args.self.now c.args.key_id.now
    c.args.message.now c.args.signature.now in
    ((λ e. law.0 (sym c.check.ensures ∙ e)), (λ is. c.check.ensures ∙ law.1 is))

pub returns-clause-verification_failed : goal.returns-clause-verification_failed
returns-clause-verification_failed g c =
    let law = vouch_signed (g.C.SignatureChecker.point_accepts c.args.checker.now) c.args.self.now c.args.key_id.now
    c.args.message.now c.args.signature.now false in
    ((λ e. law.0 (sym c.check.ensures ∙ e)), (λ is. c.check.ensures ∙ law.1 is))
