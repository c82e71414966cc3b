-- The reply of the command, and its explanation.
use Rattle.sig_json.specs.Tree.{document_tree}
use Rattle.sig_program.proofs.Explanations.{explained-replied}
use Rattle.sig_program.specs.declared.explained.Explained.TheVariants.{Gate}
use Rattle.sig_program.proofs.explain.explain_gate.Goals as goal

pub returns : goal.returns
returns c =
    let made = c.in_ok-explained.explained in
    explained-replied Gate c.args.request.now made.reply (document_tree made.document) c.explained_by.result
    c.in_ok-explained.ensures.reply c.in_ok-explained.ensures.explanation c.explained_by.ensures
