use Rattle.std.proofs.Common.{◌≡◌}
use Rattle.sig_certificate.specs.ExtensionsLeft.{extensions_left}
use Rattle.sig_x509.specs.Issuance.{are_understood}
use Rattle.sig_x509.proofs.issuance.are_understood.Given as goal

-- all are understood if those that are left are
abbrev pub invariant-loop-extension : goal.invariant-loop-extension
invariant-loop-extension l =
    (goal.iterator-loop-extension).can_next l.extension-iterator
    × (goal.iterator-loop-extension).is_finite l.extension-iterator
    × (are_understood (extensions_left l.extension-iterator) ≡ are_understood l.certificate.extensions)
