-- What is shown of the updates so far, and what they made of the logs.
use Rattle.std.proofs.Common.{take}
use Rattle.sig_explain_witness.specs.Walk.{IsShownList}
use Rattle.sig_json.specs.Tree.{document_tree}
use Rattle.sig_explain_witness.proofs.walk.update_each.Given as goal

abbrev pub invariant-texts : goal.invariant-texts
invariant-texts l =
    IsShownList l.accepted (l.fn.witness, l.fn.left) (take l.text-index l.texts) (document_tree l.list)
    (l.witness, l.left)
