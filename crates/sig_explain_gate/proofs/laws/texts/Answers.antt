use Rattle.sig_explain_gate.proofs.OneTree.{texts_have_one_tree}
use Rattle.sig_explain_gate.proofs.laws.texts.Goals as goal

pub returns : goal.returns
returns c = texts_have_one_tree c.results.ensures c.proofs.ensures
