use Rattle.std.proofs.Common.{◌≡◌, ◌+◌}
use Rattle.sig_merkle.specs.Root.{node_of}
use Rattle.sig_merkle.proofs.FrontLists.{IsPut}
use Rattle.sig_merkle.proofs.fronts.put_left.Given as goal

abbrev pub invariant-roots : goal.invariant-roots
invariant-roots g l = record {
  put : IsPut (node_of l.left) l.initial.roots l.roots l.place;
  taken : l.steps ≡ l.initial.steps + l.place;
}
