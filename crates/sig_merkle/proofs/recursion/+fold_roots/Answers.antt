use Rattle.std.proofs.Common.{arith}
use Rattle.sig_merkle.proofs.ConsistencyLens.{roots_len-left, roots_len-right}
use Rattle.sig_merkle.proofs.ConsistencySteps.{fold_known, fold_last, fold_left, fold_right}
use Rattle.sig_merkle.proofs.recursion.+fold_roots.Goals as goal

pub returns-in_default-clause-roots : goal.returns-in_default-clause-roots
returns-in_default-clause-roots g t c =
    fold_known _ _ _ _ _ c.requires.some c.requires.within c.requires.count c.in_default.ensures.cases

pub returns-then-old_size-size-clause-roots : goal.returns-then-old_size-size-clause-roots
returns-then-old_size-size-clause-roots g t c =
    fold_last _ _ _ _ _ _ _ c.if-old_size-size.true c.requires.count c.in-Some.ensures.cases.0

pub fold_roots-left-requires : goal.fold_roots-left-requires
fold_roots-left-requires g t c κs within = grind (arith, roots_len-left)

pub fold_roots-right-requires : goal.fold_roots-right-requires
fold_roots-right-requires g t c κs within = grind (arith, roots_len-right)

pub returns-then-old_size-half-clause-roots : goal.returns-then-old_size-half-clause-roots
returns-then-old_size-half-clause-roots g t c =
    fold_left _ _ _ _ _ _ _ _ _ _ _ c.split_point-half.ensures c.if-old_size-half.true c.in-Some.ensures.cases.0
    c.fold_roots-left.ensures.roots c.hash_step.ensures.value

pub returns-else-old_size-half-clause-roots : goal.returns-else-old_size-half-clause-roots
returns-else-old_size-half-clause-roots g t c =
    fold_right _ _ _ _ _ _ _ _ _ _ _ _ c.split_point-half.ensures c.if-old_size-half.false (omega arith)
    c.in-Some.ensures.cases.0 c.fold_roots-right.ensures.roots c.hash_step-else-old_size-half.ensures.value
    c.hash_step-else-old_size-half-2.ensures.value
