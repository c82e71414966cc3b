use Rattle.std.proofs.Common.{◌≡◌, ◌++◌}
use Rattle.sig_certificate.specs.ExtensionsLeft.{extensions_left}
use Rattle.sig_der.specs.ObjectIdentifiers.{sct_list}
use Rattle.sig_timestamp.specs.Precert.{ders_of, without_oid}
use Rattle.sig_timestamp.proofs.precert.kept_extensions.Given as goal

-- what was kept, and then what is kept of the extensions left, is all
abbrev pub invariant-loop-extension : goal.invariant-loop-extension
invariant-loop-extension l =
    (goal.iterator-loop-extension).can_next l.extension-iterator
    × (goal.iterator-loop-extension).is_finite l.extension-iterator
    × (l.kept.items ++ ders_of (without_oid sct_list (extensions_left l.extension-iterator))
    ≡ ders_of (without_oid sct_list l.leaf.extensions))
