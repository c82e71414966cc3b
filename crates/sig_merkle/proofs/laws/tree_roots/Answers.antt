use Rattle.sig_merkle.proofs.RootLaws.{root-none, root-one, root-more}
use Rattle.sig_merkle.proofs.laws.tree_roots.Goals as goal

pub returns : goal.returns
returns c = record { none = root-none; one = root-one; more = root-more }
