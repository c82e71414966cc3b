use Rattle.std.proofs.Common.{◌≡◌, map, take}
use Rattle.sig_x509.specs.Possible.{further_signer, seen_signer}
use Rattle.sig_x509.proofs.possible.further_signers.Given as goal

-- those so far
abbrev pub invariant-further : goal.invariant-further
invariant-further l = map seen_signer l.signers.items
    ≡ map (further_signer l.anchors l.further l.time) (take l.place l.further)
