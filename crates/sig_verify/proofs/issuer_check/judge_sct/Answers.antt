use Rattle.sig_verify.proofs.IssuerSteps.{sct_judged}
use Rattle.sig_verify.proofs.issuer_check.judge_sct.Goals as goal

pub returns : goal.returns
returns g c =
    sct_judged _ _ _ _ c.in_ok-embedded.embedded c.in_ok-signed.signed c.verify_sct.result
    c.in_ok-embedded.ensures.embedded.read c.in_ok-signed.ensures c.verify_sct.ensures.exact
