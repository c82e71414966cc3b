use Rattle.sig_json.proofs.NamedTrees.{names_differ}
use Rattle.sig_json.proofs.laws.trees_are_named.Goals as goal

pub returns : goal.returns
returns c = record { document = λ document. document.named; view = λ json. json.named; names = names_differ }
