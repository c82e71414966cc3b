use Rattle.sig_verify.proofs.VerdictSteps.{few_further}
use Rattle.sig_explain_verify.proofs.bundle.check.Goals as goal

pub returns-in-Ok-clause-few : goal.returns-in-Ok-clause-few
returns-in-Ok-clause-few c =
    few_further c.args.bundle.now c.in-Ok.checked (c.in-Ok.ensures.passed c.in-Ok.checked)
