use Rattle.std.proofs.Common.{◌≡◌, drop}
use Rattle.sig_gate.specs.VerifiedBundles.{entries_of, largest_from}
use Rattle.sig_gate.proofs.decision.largest_size.Given as goal

-- the largest size so far, and those that are left, decide
abbrev pub invariant-bundles : goal.invariant-bundles
invariant-bundles l =
    largest_from 0 (entries_of l.bundles) ≡ largest_from l.largest (entries_of (drop l.verdict-index l.bundles))
