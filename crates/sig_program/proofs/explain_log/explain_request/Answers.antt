-- The reply and the explanation under one verdict.
use Rattle.std.proofs.Common.{inr}
use Rattle.sig_explain_log.specs.Log.{log_tree}
use Rattle.sig_program.proofs.Explanations.{explained-replied}
use Rattle.sig_program.specs.declared.explained.Explained.TheVariants.{Log}
use Rattle.sig_program.proofs.explain_log.explain_request.Goals as goal

pub returns : goal.returns
returns c = λ text is.
    explained-replied Log text c.in_ok-plain.plain _ c.explained_by.result (c.in_ok-plain.ensures text is)
    (inr (c.args.request.now, c.in_ok-verdict.verdict, is, c.in_ok-verdict.ensures, c.in_ok-explanation.ensures))
    c.explained_by.ensures
