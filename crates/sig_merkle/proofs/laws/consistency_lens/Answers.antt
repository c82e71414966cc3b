use Rattle.std.proofs.Common.{true, false}
use Rattle.sig_merkle.proofs.ConsistencyLens as lens
use Rattle.sig_merkle.proofs.laws.consistency_lens.Goals as goal

pub returns : goal.returns
returns c = record {
  known = λ size. lens.roots_len-shared size true;
  repeated = λ size. lens.roots_len-shared size false;
  left = lens.roots_len-left;
  right = lens.roots_len-right;
  bound = lens.roots_len-within;
}
