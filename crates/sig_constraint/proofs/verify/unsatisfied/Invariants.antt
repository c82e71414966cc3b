use Rattle.std.proofs.Common.{◌≡◌, take}
use Rattle.sig_constraint.specs.Satisfied.{unsatisfied}
use Rattle.sig_constraint.proofs.verify.unsatisfied.Given as goal

-- the indices so far
abbrev pub invariant-constraints : goal.invariant-constraints
invariant-constraints g l =
    l.indices
    ≡ unsatisfied (λ c x. g.V.VerificationConstraint.holds c x) l.layers (take l.index l.constraints)
