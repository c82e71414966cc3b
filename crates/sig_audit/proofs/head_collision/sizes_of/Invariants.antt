use Rattle.std.proofs.Common.{◌≡◌, take}
use Rattle.sig_audit.specs.Fronts.{sizes_in}
use Rattle.sig_audit.proofs.head_collision.sizes_of.Given as goal

-- the sizes of the heads so far
abbrev pub invariant-loop-head : goal.invariant-loop-head
invariant-loop-head l = l.sizes.items ≡ sizes_in (take l.head-index l.heads)
