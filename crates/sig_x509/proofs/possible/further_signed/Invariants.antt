use Rattle.std.proofs.Common.{◌≡◌, map, take}
use Rattle.sig_x509.specs.Possible.{further_signed, seen_signed}
use Rattle.sig_x509.proofs.possible.further_signed.Given as goal

-- those so far
abbrev pub invariant-further : goal.invariant-further
invariant-further l = map seen_signed l.signed.items
    ≡ map (further_signed l.further l.leaf l.time) (take l.place l.further)
