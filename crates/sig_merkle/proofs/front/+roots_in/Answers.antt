use Rattle.std.proofs.Common.{arith, false}
use Rattle.sig_merkle.proofs.FrontSteps.{front-over, front_steps-left, front_steps-right}
use Rattle.sig_merkle.proofs.HalfSteps.{root-over}
use Rattle.sig_merkle.proofs.front.+roots_in.Goals as goal

pub returns-then-count-left-clause-new : goal.returns-then-count-left-clause-new
returns-then-count-left-clause-new g t c =
    root-over _ _ _ _ _ _ c.halves.ensures c.roots_in-first.ensures.new c.tree_in-then-count-left.ensures.root
    c.hash_step.ensures.value

pub returns-then-count-left-clause-steps : goal.returns-then-count-left-clause-steps
returns-then-count-left-clause-steps g t c known =
    front_steps-left _ _ _ _ _ known _ _ _ c.halves.ensures c.if-count-left.true
    (c.roots_in-first.ensures.steps known) c.tree_in-then-count-left.ensures.steps c.hash_step.ensures.steps

pub returns-else-count-left-clause-old : goal.returns-else-count-left-clause-old
returns-else-count-left-clause-old g t c =
    front-over _ _ _ _ _ _ _ c.halves.ensures c.if-count-left.false c.requires.within
    c.tree_in-else-count-left.ensures.root c.roots_in-rest.ensures.old c.hash_step-else-count-left.ensures.value

pub returns-else-count-left-clause-new : goal.returns-else-count-left-clause-new
returns-else-count-left-clause-new g t c =
    root-over _ _ _ _ _ _ c.halves.ensures c.tree_in-else-count-left.ensures.root c.roots_in-rest.ensures.new
    c.hash_step-else-count-left-2.ensures.value

pub returns-else-count-left-clause-steps : goal.returns-else-count-left-clause-steps
returns-else-count-left-clause-steps g t c known =
    front_steps-right _ _ _ _ _ _ known _ _ _ c.halves.ensures c.if-count-left.false
    (omega (arith, c.requires.within, c.if-count-entries.false)) c.tree_in-else-count-left.ensures.steps
    (c.roots_in-rest.ensures.steps false) c.hash_step-else-count-left.ensures.steps
    c.hash_step-else-count-left-2.ensures.steps
