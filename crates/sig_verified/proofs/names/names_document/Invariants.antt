-- The names of the front are written, and the others are left.
use Rattle.sig_certificate.specs.BorrowedNames.{names_left}
use Rattle.sig_json.specs.Tree.{document_tree}
use Rattle.sig_verified.proofs.ShownNames.{IsWritten}
use Rattle.sig_verified.proofs.names.names_document.Given as goal

abbrev pub invariant-names : goal.invariant-names
invariant-names l =
    (goal.iterator-names).can_next l.name-iterator × (goal.iterator-names).is_finite l.name-iterator
    × IsWritten (names_left l.fn.names) (names_left l.name-iterator) (document_tree l.list) l.shown
