-- What was written so far is the front of the list.
use Rattle.std.proofs.Common.{◌≡◌, take}
use Rattle.sig_json.specs.Writing.{list_tree}
use Rattle.sig_json.specs.Tree.{document_tree}
use Rattle.sig_policy.specs.Failures.{failures}
use Rattle.sig_explanation.specs.KeptRows.{inner_policy_tree}
use Rattle.sig_explanation.proofs.policy.inner_documents.Given as goal

abbrev pub invariant-errors : goal.invariant-errors
invariant-errors l = document_tree l.list ≡ list_tree inner_policy_tree (take l.index (failures l.errors))
