-- What is wrong comes first, and then what is compared.
use Rattle.sig_explain_log.proofs.Rows.{then_rows}
use Rattle.sig_explain_log.specs.Log.{log_trees_rows}
use Rattle.sig_explain_log.specs.Head.{head_mismatch_rows}
use Rattle.sig_explain_log.proofs.log.with_match.Goals as goal

pub returns : goal.returns
returns c =
    then_rows c.args.object c.in_ok-object.object
    (head_mismatch_rows c.args.request.now.head c.args.request.now.proof.tree_size
    c.args.request.now.proof.root_hash)
    (log_trees_rows c.args.request.now)
    c.with_trees.result c.in_ok-object.ensures c.with_trees.ensures
