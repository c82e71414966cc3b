use Rattle.std.proofs.Common.{◌≡◌}
use Rattle.sig_certificate.specs.ExtensionsLeft.{extensions_left}
use Rattle.sig_certificate.specs.Lookups.{with_oid}
use Rattle.sig_signer.specs.Claims.{first_of}
use Rattle.sig_signer.proofs.claims.first_extension.Given as goal

-- the first is that of the extensions that are left
abbrev pub invariant-extensions : goal.invariant-extensions
invariant-extensions l =
    (goal.iterator-extensions).can_next l.extension-iterator
    × (goal.iterator-extensions).is_finite l.extension-iterator
    × (first_of (with_oid l.oid (extensions_left l.extension-iterator)) ≡ first_of (with_oid l.oid l.certificate.extensions))
