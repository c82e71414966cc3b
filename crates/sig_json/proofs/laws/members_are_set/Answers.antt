use Rattle.sig_json.proofs.BuiltTrees.{found_where_set, others_stay}
use Rattle.sig_json.proofs.laws.members_are_set.Goals as goal

pub returns : goal.returns
returns c = record { found = found_where_set; others = others_stay }
