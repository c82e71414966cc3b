-- By recursion over the instances.
use Rattle.std.proofs.Common.{[]}
use Rattle.sig_root.proofs.KeyLaws.{key_means, key_meant}
use Rattle.sig_root.proofs.LastKeys.{each_ascends, last_found, none_ascend, only_last}
use Rattle.sig_root.proofs.laws.picked_keys.Goals as goal

pub returns-clause-last : goal.returns-clause-last
returns-clause-last c = λ now instances id key. (only_last now instances id key, last_found now instances id key [])

pub returns-clause-ordered : goal.returns-clause-ordered
returns-clause-ordered c = λ now instances. each_ascends now instances [] none_ascend

pub returns-clause-keys : goal.returns-clause-keys
returns-clause-keys c = λ now instance id key bytes. (
  key_means now instance id key bytes,
  key_meant now instance id key,
)
