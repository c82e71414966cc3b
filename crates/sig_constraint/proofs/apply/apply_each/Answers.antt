-- One more constraint.
use Rattle.std.proofs.Common.{sym, ◌∙◌}
use Rattle.sig_cosign.specs.Layer.{seen_layer}
use Rattle.sig_constraint.proofs.Turns.{applied_turn, given_turn, refused_turn}
use Rattle.sig_constraint.proofs.apply.apply_each.Goals as goal
use Rattle.sig_constraint.proofs.apply.apply_each.Goals.{then-not-branch+in_ok-push, else-not-branch}

pub constraints-preserved : goal.constraints-preserved
constraints-preserved g c = (
  elim c.if-not-branch.branch [
    | then-not-branch+in_ok-push w ↦
        refused_turn (λ k x. g.K.Constraint.gives k x) (seen_layer c.args.layer.now) c.args.constraints.now
        c.constraints.index c.index-constraints-index.result (seen_layer c.constraints.layer)
        c.constraints.indices c.if-not-branch.indices c.constraints-test.true c.index-constraints-index.is
        (sym w.if-not-branch.true ∙ c.in_ok-apply_one.ensures.given) c.constraints.invariant.1
        (w.indices-is ∙ w.in_ok-push.ensures.ok) c.constraints.invariant.0
    | else-not-branch w ↦
        w.indices-is
        ∙ given_turn (λ k x. g.K.Constraint.gives k x) (seen_layer c.args.layer.now) c.args.constraints.now
        c.constraints.index c.index-constraints-index.result (seen_layer c.constraints.layer)
        c.constraints.indices c.constraints-test.true c.index-constraints-index.is
        (sym w.if-not-branch.false ∙ c.in_ok-apply_one.ensures.given) c.constraints.invariant.1
        c.constraints.invariant.0
  ],
  applied_turn (λ k x. g.K.Constraint.gives k x) (seen_layer c.args.layer.now) c.args.constraints.now
      c.constraints.index c.index-constraints-index.result (seen_layer c.constraints.layer)
      (seen_layer c.apply_one.new.layer) c.constraints-test.true c.index-constraints-index.is
      (c.in_ok-apply_one.ensures.after) c.constraints.invariant.1,
)
