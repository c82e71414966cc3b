use Rattle.sig_merkle.proofs.PathLaws.{path_len-one, path_len-left, path_len-right, path_len-within, path_len-seven}
use Rattle.sig_merkle.proofs.laws.path_lens.Goals as goal

pub returns : goal.returns
returns c = record {
  one = path_len-one;
  left = path_len-left;
  right = path_len-right;
  bound = path_len-within;
  seven = path_len-seven;
}
