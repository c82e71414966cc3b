-- What was written so far is the front of the list.
use Rattle.std.proofs.Common.{◌≡◌, take}
use Rattle.sig_json.specs.Writing.{list_tree}
use Rattle.sig_json.specs.Tree.{document_tree}
use Rattle.sig_shown.proofs.list.list_document.Given as goal

abbrev pub invariant-items : goal.invariant-items
invariant-items g l = document_tree l.list ≡ list_tree g.T.Shown.tree (take l.item-index l.items)
