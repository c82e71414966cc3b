use Rattle.std.proofs.Common.{◌≡◌, ◌++◌, drop, map}
use Rattle.sig_gate.specs.RuleHolds.{bodies_of}
use Rattle.sig_gate.specs.VerifiedBundles.{entries_of}
use Rattle.sig_gate.proofs.different.bodies_of.Given as goal

-- the bodies so far, and those of the verdicts that are left
abbrev pub invariant-bundles : goal.invariant-bundles
invariant-bundles l =
    bodies_of (entries_of l.bundles)
    ≡ map (λ body. body.now) l.bodies.items ++ bodies_of (entries_of (drop l.verdict-index l.bundles))
