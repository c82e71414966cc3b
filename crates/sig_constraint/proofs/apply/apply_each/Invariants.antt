use Rattle.std.proofs.Common.{◌≡◌, take}
use Rattle.sig_cosign.specs.Layer.{seen_layer}
use Rattle.sig_constraint.specs.Applied.{applied, unapplied_from}
use Rattle.sig_constraint.proofs.apply.apply_each.Given as goal

-- the indices so far, and the layer so far
abbrev pub invariant-constraints : goal.invariant-constraints
invariant-constraints g l =
    (l.indices
    ≡ unapplied_from (λ c x. g.K.Constraint.gives c x) 0 (seen_layer l.fn.layer) (take l.index l.constraints))
    × (seen_layer l.layer
    ≡ applied (λ c x. g.K.Constraint.gives c x) (seen_layer l.fn.layer) (take l.index l.constraints))
