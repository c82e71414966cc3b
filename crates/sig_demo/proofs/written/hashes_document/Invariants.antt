-- What was written so far is the front of the list, and is read back.
use Rattle.std.proofs.Common.{◌≡◌, take}
use Rattle.sig_json.specs.Writing.{IsReadAs, bytes_tree, list_tree}
use Rattle.sig_json.specs.Kinds.{hash_of}
use Rattle.sig_json.specs.Member.{list_each}
use Rattle.sig_json.specs.Tree.{document_tree}
use Rattle.sig_demo.specs.Request.{hash_tree}
use Rattle.sig_demo.proofs.written.hashes_document.Given as goal

abbrev pub invariant-hashes : goal.invariant-hashes
invariant-hashes l =
    (document_tree l.list ≡ list_tree hash_tree (take l.hash-index l.hashes))
    × IsReadAs (list_each hash_of) (list_tree hash_tree (take l.hash-index l.hashes)) (take l.hash-index l.hashes)
