use Rattle.std.proofs.Common.{[]}
use Rattle.sig_dsse.proofs.CollectedDigests.{SoFar}
use Rattle.sig_dsse.specs.Recognized.{map_digests}
use Rattle.sig_dsse.proofs.recognized.digests_of_subjects.Given as goal

-- the digests so far and the subjects that are left are what is meant
abbrev pub invariant-subjects : goal.invariant-subjects
invariant-subjects l = SoFar map_digests l.fn.subjects l.digest-iterator [] l.digests
