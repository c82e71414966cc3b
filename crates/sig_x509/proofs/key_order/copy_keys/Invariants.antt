use Rattle.std.proofs.Common.{◌≡◌, map, take}
use Rattle.sig_x509.specs.KeyOrder.{AreCopies}
use Rattle.sig_x509.proofs.key_order.copy_keys.Given as goal

-- the places of the indices so far
abbrev pub invariant-order : goal.invariant-order
invariant-order l =
    (map (λ place. place.index) l.places.items ≡ take l.index-index l.order)
    × AreCopies l.from l.anchors l.buffer.items l.places.items
