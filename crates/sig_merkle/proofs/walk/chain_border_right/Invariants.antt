use Rattle.std.proofs.Common.{◌≡◌, ◌+◌, drop}
use Rattle.sig_merkle.specs.Walk.{border_fold}
use Rattle.sig_merkle.proofs.walk.chain_border_right.Given as goal

abbrev pub invariant-loop-hash : goal.invariant-loop-hash
invariant-loop-hash g l = record {
  rest : border_fold l.value (drop l.hash-index l.proof_hashes) ≡ border_fold l.seed l.proof_hashes;
  taken : l.steps ≡ l.initial.steps + l.hash-index;
}
