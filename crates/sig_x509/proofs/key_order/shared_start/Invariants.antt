use Rattle.std.proofs.Common.{◌≡◌, map, slice_get, take}
use Rattle.sig_x509.specs.KeyOrder.{spki_in}
use Rattle.sig_x509.proofs.key_order.shared_start.Given as goal

-- the SPKIs of the indices so far
abbrev pub invariant-asked : goal.invariant-asked
invariant-asked l =
    map (λ spki. spki.now) l.spkis.items ≡ map (λ index. spki_in (slice_get l.anchors index)) (take l.index-index l.asked)
