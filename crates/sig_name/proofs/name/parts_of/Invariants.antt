-- The parts so far, and then those of the rest, are all.
use Rattle.std.proofs.Common.{length}
use Rattle.sig_name.proofs.Parts.{AreSoFar}
use Rattle.sig_name.proofs.name.parts_of.Given as goal

abbrev pub invariant-parts : goal.invariant-parts
invariant-parts l = AreSoFar l.found.items l.rest l.fn.bytes

abbrev pub decreases-parts : goal.decreases-parts
decreases-parts l = length l.rest
