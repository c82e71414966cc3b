-- What was written so far is the front of the list.
use Rattle.std.proofs.Common.{arith}
use Rattle.sig_json.specs.Tree.{document_tree}
use Rattle.sig_evidence.specs.Logs.{log_tree}
use Rattle.sig_shown.proofs.Lists.{list_more}
use Rattle.sig_evidence.proofs.logs.list_of.Goals as goal

pub logs-preserved : goal.logs-preserved
logs-preserved c =
    list_more (log_tree c.args.now.now) c.args.logs.now c.logs.log-index c.log-item.result
    (document_tree c.logs.list) (document_tree c.in_ok-log_document.field-0) (document_tree c.push.new.self)
    (omega (arith, c.logs-test.true)) c.log-item.is c.logs.invariant c.in_ok-log_document.ensures
    c.in_ok-push.ensures.ok
