-- What is wrong comes first, and then what is compared.
use Rattle.sig_explain_log.proofs.Rows.{then_rows}
use Rattle.sig_explain_log.specs.Consistency.{new_rows}
use Rattle.sig_explain_log.specs.Head.{head_mismatch_rows}
use Rattle.sig_explain_log.proofs.consistency.with_match.Goals as goal

pub returns : goal.returns
returns c =
    then_rows c.args.object c.in_ok-object.object
    (head_mismatch_rows c.args.request.now.head c.args.request.now.tree_size c.args.request.now.root_hash)
    (new_rows c.args.request.now)
    c.with_new.result c.in_ok-object.ensures c.with_new.ensures
