use Rattle.sig_explain_verify.proofs.OneTree.{results_have_one_tree}
use Rattle.sig_explain_verify.proofs.laws.results.Goals as goal

pub returns : goal.returns
returns c = results_have_one_tree c.certificates.ensures
