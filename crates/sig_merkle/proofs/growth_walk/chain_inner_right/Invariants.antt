use Rattle.std.proofs.Common.{◌≡◌, ◌+◌, ◌≤◌, drop}
use Rattle.sig_merkle.specs.GrowthWalk.{right_fold}
use Rattle.sig_merkle.proofs.growth_walk.chain_inner_right.Given as goal

abbrev pub invariant-loop-hash : goal.invariant-loop-hash
invariant-loop-hash g l = record {
  rest : right_fold l.value (drop l.hash-index l.proof_hashes) l.bits ≡ right_fold l.seed l.proof_hashes l.index;
  least : l.initial.steps ≤ l.steps;
  most : l.steps ≤ l.initial.steps + l.hash-index;
}
