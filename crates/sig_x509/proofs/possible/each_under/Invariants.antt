use Rattle.std.proofs.Common.{◌≡◌, map, take}
use Rattle.sig_x509.specs.Possible.{seen_signed, seen_under, signed_under, signers_with}
use Rattle.sig_x509.proofs.possible.each_under.Given as goal

-- those so far
abbrev pub invariant-signed : goal.invariant-signed
invariant-signed l = map seen_under l.all.items
    ≡ map (λ y. signed_under (signers_with l.anchors l.signers) (seen_signed y)) (take l.certificate-index l.signed)
