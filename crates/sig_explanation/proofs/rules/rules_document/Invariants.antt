-- What was written so far is the front of the list.
use Rattle.std.proofs.Common.{◌≡◌, take}
use Rattle.sig_json.specs.Tree.{document_tree}
use Rattle.sig_explanation.specs.Rules.{rules_tree}
use Rattle.sig_explanation.proofs.rules.rules_document.Given as goal

abbrev pub invariant-rules : goal.invariant-rules
invariant-rules l = document_tree l.list ≡ rules_tree l.certificate (take l.rule-index l.rules)
