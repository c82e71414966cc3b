use Rattle.std.proofs.Common.{◌≡◌, take}
use Rattle.std.specs.Prelude.{position}
use Rattle.sig_x509.specs.KeyOrder.{has_some_key}
use Rattle.sig_x509.proofs.by_key.first_of_keys.Given as goal

-- the first with one of the keys so far
abbrev pub invariant-keys : goal.invariant-keys
invariant-keys l = l.first ≡ position (has_some_key l.subject (take l.index l.keys)) l.anchors
