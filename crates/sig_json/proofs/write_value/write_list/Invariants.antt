-- What was written so far is the front of the list, and is read back.
use Rattle.std.proofs.Common.{◌≡◌, take}
use Rattle.sig_json.specs.Writing.{IsReadAs, list_tree}
use Rattle.sig_json.specs.Member.{list_each}
use Rattle.sig_json.specs.Tree.{document_tree}
use Rattle.sig_json.proofs.write_value.write_list.Given as goal

abbrev pub invariant-loop-item : goal.invariant-loop-item
invariant-loop-item g l =
    (document_tree l.list ≡ list_tree g.T.ElementWriter.written (take l.item-index l.items))
    × IsReadAs (list_each g.T.ElementWriter.meaning) (list_tree g.T.ElementWriter.written (take l.item-index l.items))
    (take l.item-index l.items)
