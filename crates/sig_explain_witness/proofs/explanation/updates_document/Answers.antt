-- The explanation of the updates.
use Rattle.sig_explain_witness.proofs.Explanations.{of-updates}
use Rattle.sig_json.specs.Tree.{document_tree}
use Rattle.sig_explain_witness.proofs.explanation.updates_document.Goals as goal

pub returns : goal.returns
returns c =
    of-updates c.args.request.now c.args.witness.now c.as_slice-texts.result.now (document_tree c.in_ok-list.list)
    (c.update_each.new.witness, c.update_each.new.left) c.counted.result c.as_slice-texts.ensures
    c.in_ok-list.ensures c.counted.ensures
