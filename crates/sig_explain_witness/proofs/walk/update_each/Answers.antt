-- The updates so far.
use Rattle.std.proofs.Common.{arith}
use Rattle.sig_json.specs.Tree.{document_tree}
use Rattle.sig_explain_witness.proofs.Walks.{list-more}
use Rattle.sig_explain_witness.proofs.walk.update_each.Goals as goal

pub texts-preserved : goal.texts-preserved
texts-preserved c =
    list-more c.args.accepted.now (c.args.witness.now, c.args.left.now) (c.texts.witness, c.texts.left)
    (c.update_by_text.new.witness, c.update_by_text.new.left) c.args.texts.now c.texts.text-index
    c.text-item.result (document_tree c.texts.list) (document_tree c.in_ok-shown.shown)
    (document_tree c.push.new.self) (omega (arith, c.texts-test.true)) c.text-item.is c.texts.invariant
    c.in_ok-shown.ensures c.in_ok-push.ensures.ok
