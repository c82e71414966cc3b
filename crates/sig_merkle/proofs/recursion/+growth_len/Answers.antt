use Rattle.std.proofs.Common.{◌≡◌, ◌+◌, arith}
use Rattle.sig_merkle.specs.Consistency.{roots_len}
use Rattle.sig_merkle.proofs.ConsistencyLens.{roots_len-within}
use Rattle.sig_merkle.proofs.ConsistencySteps.{counted_whole, counted_left, counted_right}
use Rattle.sig_merkle.proofs.recursion.+growth_len.Goals as goal

pub returns-then-old_size-size-clause-value : goal.returns-then-old_size-size-clause-value
returns-then-old_size-size-clause-value t c = counted_whole _ _ _ _ c.if-old_size-size.true c.whole_len.ensures

pub returns-then-old_size-half-clause-value : goal.returns-then-old_size-half-clause-value
returns-then-old_size-half-clause-value t c =
    counted_left _ _ _ _ _ c.split_point-half.ensures c.if-old_size-half.true c.growth_len.ensures.value

pub returns-then-old_size-half-clause-bound : goal.returns-then-old_size-half-clause-bound
returns-then-old_size-half-clause-bound t c =
    let counted : c.growth_len.result + 1 ≡ roots_len c.args.old_size c.args.size c.args.known =
    counted_left _ _ _ _ _ c.split_point-half.ensures c.if-old_size-half.true c.growth_len.ensures.value in
    omega (arith, counted, roots_len-within c.args.old_size c.args.size c.args.known (omega arith))

pub returns-else-old_size-half-clause-value : goal.returns-else-old_size-half-clause-value
returns-else-old_size-half-clause-value t c =
    counted_right _ _ _ _ _ c.split_point-half.ensures c.if-old_size-half.false (omega arith)
    c.growth_len-else-old_size-half.ensures.value

pub returns-else-old_size-half-clause-bound : goal.returns-else-old_size-half-clause-bound
returns-else-old_size-half-clause-bound t c =
    let counted : c.growth_len-else-old_size-half.result + 1 ≡ roots_len c.args.old_size c.args.size c.args.known =
    counted_right _ _ _ _ _ c.split_point-half.ensures c.if-old_size-half.false (omega arith)
    c.growth_len-else-old_size-half.ensures.value in
    omega (arith, counted, roots_len-within c.args.old_size c.args.size c.args.known (omega arith))
