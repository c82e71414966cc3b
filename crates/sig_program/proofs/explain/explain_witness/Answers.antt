-- The reply of the command, and its explanation.
use Rattle.sig_program.proofs.Explanations.{explained-replied}
use Rattle.sig_program.specs.declared.explained.Explained.TheVariants.{Witness}
use Rattle.sig_program.proofs.explain.explain_witness.Goals as goal

pub returns : goal.returns
returns c =
    explained-replied Witness c.args.request.now c.in_ok-plain.plain _ c.explained_by.result c.in_ok-plain.ensures
    c.in_ok-explanation.ensures c.explained_by.ensures
