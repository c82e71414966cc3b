-- What is wrong comes first, and then what is compared.
use Rattle.sig_explain_log.proofs.Rows.{then_rows}
use Rattle.sig_explain_log.specs.Consistency.{grown_rows, growth_answer}
use Rattle.sig_explain_log.specs.Refusals.{consistency_rows}
use Rattle.sig_explain_log.proofs.consistency.with_growth.Goals as goal

pub returns : goal.returns
returns c =
    then_rows c.args.object c.in_ok-object.object
    (consistency_rows (growth_answer c.args.request.now))
    (grown_rows c.args.request.now)
    c.with_trees.result c.in_ok-object.ensures c.with_trees.ensures
