-- A signature for which no key is listed does not have a signer.
use Rattle.std.proofs.Common.{sym, ◌∙◌}
use Rattle.std.proofs.lemmas.Bool.{not-false}
use Rattle.sig_x509.proofs.KeyAnswers.{signed_by_none}
use Rattle.sig_x509.proofs.issuance.may_be_signed.Goals as goal

pub returns-in-Some : goal.returns-in-Some
returns-in-Some g c refused =
    signed_by_none (g.C.SignatureChecker.cert_accepts c.args.checker.now) c.args.certificate.now c.in-Some.keys
    c.in-Some.ensures (sym c.is_empty.ensures ∙ not-false _ refused)

pub returns-in-None : goal.returns-in-None
returns-in-None g c refused = absurd cc
