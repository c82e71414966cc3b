use Rattle.std.proofs.Common.{◌≡◌, ℕ, List, take}
use Rattle.sig_timestamp.specs.Keyring.{key_of}
use Rattle.sig_timestamp.specs.RingKey.{point_at}
use Rattle.sig_timestamp.proofs.keyring.Keyring.new.Given as goal

-- the ring is that of the keys so far
abbrev pub invariant-loop-spki : goal.invariant-loop-spki
invariant-loop-spki l = (id : List ℕ) → point_at l.ring id ≡ key_of (take l.spki-index l.keys) id
