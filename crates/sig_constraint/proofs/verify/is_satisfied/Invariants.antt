use Rattle.std.proofs.Common.{◌≡◌, false, take}
use Rattle.std.specs.List.{list_any}
use Rattle.sig_cosign.specs.Layer.{seen_layer}
use Rattle.sig_constraint.proofs.verify.is_satisfied.Given as goal

-- no layer so far satisfies the constraint
abbrev pub invariant-loop-layer : goal.invariant-loop-layer
invariant-loop-layer g l =
    list_any (λ x. g.V.VerificationConstraint.holds l.constraint (seen_layer x)) (take l.layer-index l.layers) ≡ false
