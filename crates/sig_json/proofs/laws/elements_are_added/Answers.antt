use Rattle.sig_json.proofs.BuiltTrees.{added_last}
use Rattle.sig_json.proofs.laws.elements_are_added.Goals as goal

pub returns : goal.returns
returns c = record { last = added_last }
