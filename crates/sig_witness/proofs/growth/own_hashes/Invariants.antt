use Rattle.std.proofs.Common.{◌≡◌, take}
use Rattle.sig_witness.proofs.growth.own_hashes.Given as goal

-- the hashes so far
abbrev pub invariant-loop-hash : goal.invariant-loop-hash
invariant-loop-hash l = l.owned ≡ take l.hash-index l.hashes
