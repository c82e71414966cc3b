-- What was written so far is the front of the list.
use Rattle.std.proofs.Common.{arith}
use Rattle.sig_json.specs.Tree.{document_tree}
use Rattle.sig_shown.proofs.Lists.{list_more}
use Rattle.sig_shown.proofs.list.list_document.Goals as goal

pub items-preserved : goal.items-preserved
items-preserved g c =
    list_more g.T.Shown.tree c.args.items.now c.items.item-index c.item-item.result (document_tree c.items.list)
    (document_tree c.in_ok-show.field-0) (document_tree c.push.new.self)
    (omega (arith, c.items-test.true)) c.item-item.is c.items.invariant c.in_ok-show.ensures c.in_ok-push.ensures.ok
