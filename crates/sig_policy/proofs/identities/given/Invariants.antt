use Rattle.std.proofs.Common.{◌≡◌, ◌++◌, map}
use Rattle.std.specs.List.{filter_map}
use Rattle.sig_certificate.specs.BorrowedNames.{names_left}
use Rattle.sig_policy.specs.Identities.{identity_of}
use Rattle.sig_policy.proofs.identities.given.Given as goal

-- what was found, and then what the names left give, is all
abbrev pub invariant-loop-name : goal.invariant-loop-name
invariant-loop-name l =
    (goal.iterator-loop-name).can_next l.name-iterator × (goal.iterator-loop-name).is_finite l.name-iterator
    × (map (λ t. t.now) l.found.items ++ filter_map identity_of (names_left l.name-iterator)
    ≡ filter_map identity_of (names_left l.fn.names))
