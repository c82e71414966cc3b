use Rattle.sig_merkle.proofs.ConsistencyLaws.{roots_of-known, roots_of-repeated, roots_of-left, roots_of-right}
use Rattle.sig_merkle.proofs.ConsistencyLens.{roots_of-some}
use Rattle.sig_merkle.proofs.laws.consistency_roots.Goals as goal

pub returns : goal.returns
returns c = record {
  known = roots_of-known;
  repeated = roots_of-repeated;
  left = roots_of-left;
  right = roots_of-right;
  some = roots_of-some;
}
