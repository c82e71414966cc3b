use Rattle.std.proofs.Common.{arith, ap, ◌∙◌}
use Rattle.sig_json.proofs.WrittenLists.{list_back-none, list_more}
use Rattle.sig_json.specs.Builders.{with_last}
use Rattle.sig_json.specs.Tree.{document_tree}
use Rattle.sig_json.proofs.write_value.write_list.Goals as goal

pub loop-item-init : goal.loop-item-init
loop-item-init g c = (c.list-list.ensures, list_back-none g.T.ElementWriter.meaning g.T.ElementWriter.written)

pub loop-item-preserved : goal.loop-item-preserved
loop-item-preserved g c =
    list_more g.T.ElementWriter.meaning g.T.ElementWriter.written c.args.items.now c.loop-item.item-index
    c.item-item.result
    (document_tree c.loop-item.list) (document_tree c.push.new.self)
    (omega (arith, c.loop-item-test.true)) c.item-item.is c.loop-item.invariant c.in_ok-write.ensures.back
    (c.in_ok-push.ensures.ok ∙ ap (λ d. with_last d (document_tree c.loop-item.list)) c.in_ok-write.ensures.tree)
