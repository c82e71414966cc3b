use Rattle.std.proofs.Common.{◌≡◌}
use Rattle.sig_certificate.specs.BorrowedNames.{names_left}
use Rattle.sig_signer.specs.Subject.{first_subject}
use Rattle.sig_signer.proofs.subject.first_subject.Given as goal

-- the first is that of the names that are left
abbrev pub invariant-names : goal.invariant-names
invariant-names l =
    (goal.iterator-names).can_next l.name-iterator × (goal.iterator-names).is_finite l.name-iterator
    × (first_subject (names_left l.name-iterator) ≡ first_subject (names_left l.fn.names))
