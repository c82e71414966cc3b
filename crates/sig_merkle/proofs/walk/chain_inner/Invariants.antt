use Rattle.std.proofs.Common.{◌≡◌, ◌+◌, drop}
use Rattle.sig_merkle.specs.Walk.{inner_fold}
use Rattle.sig_merkle.proofs.walk.chain_inner.Given as goal

abbrev pub invariant-loop-hash : goal.invariant-loop-hash
invariant-loop-hash g l = record {
  rest : inner_fold l.value (drop l.hash-index l.proof_hashes) l.bits ≡ inner_fold l.seed l.proof_hashes l.index;
  taken : l.steps ≡ l.initial.steps + l.hash-index;
}
