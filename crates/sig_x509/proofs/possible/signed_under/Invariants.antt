use Rattle.std.proofs.Common.{◌≡◌, map, take}
use Rattle.sig_x509.specs.Possible.{seen_signed, signed_under, signers_with}
use Rattle.sig_x509.proofs.possible.signed_under.Given as goal

-- of those so far
abbrev pub invariant-signers : goal.invariant-signers
invariant-signers l = map (λ x. x.now) l.found.items
    ≡ (signed_under (signers_with l.anchors (take l.signer-index l.signers)) (seen_signed l.signed)).signers
