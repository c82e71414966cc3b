use Rattle.sig_merkle.proofs.PathLaws.{path_root-one, path_root-left, path_root-right, path_root-some, path_root-none}
use Rattle.sig_merkle.proofs.laws.path_roots.Goals as goal

pub returns : goal.returns
returns c = record {
  one = path_root-one;
  left = path_root-left;
  right = path_root-right;
  some = path_root-some;
  none = path_root-none;
}
