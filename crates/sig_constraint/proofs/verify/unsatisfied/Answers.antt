-- One more index, if no layer satisfies the constraint.
use Rattle.std.proofs.Common.{sym, ◌∙◌}
use Rattle.sig_constraint.specs.Satisfied.{is_satisfied}
use Rattle.sig_constraint.proofs.Turns.{failing_turn, passing_turn}
use Rattle.sig_constraint.proofs.verify.unsatisfied.Goals as goal
use Rattle.sig_constraint.proofs.verify.unsatisfied.Goals.{then-not-branch+in_ok-push, else-not-branch}

pub constraints-preserved : goal.constraints-preserved
constraints-preserved g c =
    elim c.if-not-branch.branch [
      | then-not-branch+in_ok-push w ↦
          failing_turn (is_satisfied (λ v x. g.V.VerificationConstraint.holds v x) c.args.layers.now)
          c.args.constraints.now c.constraints.index c.index-constraints-index.result c.constraints.indices
          c.if-not-branch.indices c.constraints-test.true c.index-constraints-index.is
          (sym w.if-not-branch.true ∙ c.in_ok-is_satisfied.ensures) (w.indices-is ∙ w.in_ok-push.ensures.ok)
          c.constraints.invariant
      | else-not-branch w ↦
          w.indices-is
          ∙ passing_turn (is_satisfied (λ v x. g.V.VerificationConstraint.holds v x) c.args.layers.now)
          c.args.constraints.now c.constraints.index c.index-constraints-index.result c.constraints.indices
          c.constraints-test.true c.index-constraints-index.is
          (sym w.if-not-branch.false ∙ c.in_ok-is_satisfied.ensures) c.constraints.invariant
    ]
