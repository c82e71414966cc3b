-- The words of the result.
use Rattle.sig_constraint.proofs.SatisfiedLaws.{satisfied_law, unsatisfied_law}
use Rattle.sig_constraint.proofs.verify.judged.Goals as goal

pub returns-clause-satisfied : goal.returns-clause-satisfied
returns-clause-satisfied g c =
    satisfied_law (λ v l. g.V.VerificationConstraint.holds v l) c.args.layers.now c.args.constraints.now
    c.checked.result c.checked.ensures

pub returns-clause-unsatisfied : goal.returns-clause-unsatisfied
returns-clause-unsatisfied g c =
    unsatisfied_law (λ v l. g.V.VerificationConstraint.holds v l) c.args.layers.now c.args.constraints.now
    c.checked.result c.checked.ensures
