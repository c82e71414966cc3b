use Rattle.sig_merkle.proofs.Exhibits.{front-or-broken}
use Rattle.sig_merkle.proofs.GrowthMeetings.{consistent_sizes}
use Rattle.sig_merkle.proofs.OlderTrees.{fronts-or-broken, same_size, from_empty}
use Rattle.sig_merkle.proofs.laws.older_trees.Goals as goal

pub returns : goal.returns
returns c = record {
  front = front-or-broken;
  fronts = fronts-or-broken;
  sizes = consistent_sizes;
  same = same_size;
  from_empty = from_empty;
}
