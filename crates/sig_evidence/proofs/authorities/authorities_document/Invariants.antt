-- What was written so far is the front of the list.
use Rattle.std.proofs.Common.{◌≡◌, take}
use Rattle.sig_json.specs.Writing.{list_tree}
use Rattle.sig_json.specs.Tree.{document_tree}
use Rattle.sig_evidence.specs.Authorities.{authority_tree}
use Rattle.sig_evidence.proofs.authorities.authorities_document.Given as goal

abbrev pub invariant-authorities : goal.invariant-authorities
invariant-authorities l =
    document_tree l.list ≡ list_tree (authority_tree l.now) (take l.authority-index l.authorities)
