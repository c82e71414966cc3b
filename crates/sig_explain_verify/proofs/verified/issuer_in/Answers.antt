use Rattle.sig_explain_verify.proofs.Issuers.{issuer_taken}
use Rattle.sig_explain_verify.proofs.verified.issuer_in.Goals as goal

pub returns-in-Some : goal.returns-in-Some
returns-in-Some c =
    issuer_taken c.args.inputs.now.accepted.now c.args.root.now c.args.checked.now c.in-Some.pool.now
    c.certificate-leaf.result.now c.further.result.now c.first_issuer.result c.in-Some.ensures
    c.certificate-leaf.ensures c.further.ensures c.first_issuer.ensures
