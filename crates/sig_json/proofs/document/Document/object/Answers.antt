use Rattle.sig_json.proofs.NamedTrees.{empty_object_named}
use Rattle.sig_json.proofs.document.Document.object.Goals as goal

pub invariant_of-result-clause-named : goal.invariant_of-result-clause-named
invariant_of-result-clause-named c = empty_object_named c.new.result c.new.ensures.items
