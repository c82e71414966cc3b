-- The list of different bodies has as many elements as there are different bodies.
use Rattle.std.proofs.Common.{ap, length}
use Rattle.sig_gate.proofs.BodyCounts.{different-counted}
use Rattle.sig_rekor.proofs.DedupedLists.{Raw}
use Rattle.sig_gate.specs.VerifiedBundles.{entries_of}
use Rattle.sig_gate.proofs.different.count_different.Goals as goal

pub returns : goal.returns
returns c =
    different-counted (entries_of c.args.bundles.now) c.in_ok-bodies.bodies.items (length c.as_slice-count.result.now)
    c.in_ok-bodies.ensures.kept c.in_ok-bodies.ensures.apart (ap (length {A = Raw}) c.as_slice-count.ensures.value)
