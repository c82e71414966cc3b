use Rattle.sig_json.specs.SameTreeProofs.{same_tree_exact}
use Rattle.sig_json.proofs.laws.same_trees.Goals as goal

pub returns : goal.returns
returns c = record { exact = same_tree_exact }
