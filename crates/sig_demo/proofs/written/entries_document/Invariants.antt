-- What was written so far is the front of the list, and is read back.
use Rattle.std.proofs.Common.{◌≡◌, take}
use Rattle.sig_json.specs.Writing.{IsReadAs, bytes_tree, list_tree}
use Rattle.sig_json.specs.Kinds.{bytes_of}
use Rattle.sig_json.specs.Member.{list_each}
use Rattle.sig_json.specs.Tree.{document_tree}
use Rattle.sig_demo.specs.Request.{hash_tree}
use Rattle.sig_demo.proofs.written.entries_document.Given as goal

abbrev pub invariant-entries : goal.invariant-entries
invariant-entries l =
    (document_tree l.list ≡ list_tree bytes_tree (take l.entry-index l.entries))
    × IsReadAs (list_each bytes_of) (list_tree bytes_tree (take l.entry-index l.entries)) (take l.entry-index l.entries)
