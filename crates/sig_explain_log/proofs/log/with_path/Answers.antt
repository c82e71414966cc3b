-- What is wrong comes first, and then what is compared.
use Rattle.sig_explain_log.proofs.Rows.{then_rows}
use Rattle.sig_explain_log.specs.Log.{log_trees_rows, path_answer}
use Rattle.sig_explain_log.specs.Refusals.{inclusion_rows}
use Rattle.sig_explain_log.proofs.log.with_path.Goals as goal

pub returns : goal.returns
returns c =
    then_rows c.args.object c.in_ok-object.object
    (inclusion_rows (path_answer c.args.request.now.proof.log_index c.args.request.now))
    (log_trees_rows c.args.request.now)
    c.with_trees.result c.in_ok-object.ensures c.with_trees.ensures
