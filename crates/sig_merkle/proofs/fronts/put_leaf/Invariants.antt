use Rattle.sig_merkle.proofs.FrontLists.{IsPut}
use Rattle.sig_merkle.proofs.fronts.put_leaf.Given as goal

abbrev pub invariant-roots : goal.invariant-roots
invariant-roots l = IsPut (λ _. l.leaf) l.initial.roots l.roots l.place
