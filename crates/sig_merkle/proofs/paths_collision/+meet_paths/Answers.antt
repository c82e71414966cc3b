use Rattle.std.proofs.Common.{arith}
use Rattle.std.proofs.lemmas.Result.{IfOk-weaker}
use Rattle.sig_merkle.proofs.EntryMeetings.{rest-left, rest-right}
use Rattle.sig_merkle.proofs.PathMeetings.{paths-leaf, paths-left, paths-right}
use Rattle.sig_merkle.proofs.PathSteps.{fold_several}
use Rattle.sig_merkle.proofs.paths_collision.+meet_paths.Goals as goal

pub returns-in_default : goal.returns-in_default
returns-in_default t c =
    IfOk-weaker c.meet_leaves.result _ _ (λ m meets. paths-leaf _ _ _ _ _ _ m c.requires.left_count
    c.requires.right_count c.in_default.ensures.cases meets) c.meet_leaves.ensures

pub split_point-half-requires : goal.split_point-half-requires
split_point-half-requires t c = fold_several _ _ _ c.requires.left_count (omega (arith, c.in-Some.ensures.cases.1))

pub meet_paths-requires : goal.meet_paths-requires
meet_paths-requires t c = (
  omega (arith, c.in-Some.ensures.cases.1),
  (
    c.if-index-half.true,
    (
      rest-left _ _ _ _ _ _ c.split_point-half.ensures c.if-index-half.true c.in-Some.ensures.cases.0
          c.requires.left_count,
      rest-left _ _ _ _ _ _ c.split_point-half.ensures c.if-index-half.true c.in-Some-split_last.ensures.cases.0
          c.requires.right_count,
    ),
  ),
)

pub meet_paths-requires-else-index-half : goal.meet_paths-requires-else-index-half
meet_paths-requires-else-index-half t c = (
  omega (arith, c.in-Some.ensures.cases.1),
  (
    omega (arith, c.if-index-half.false, c.requires.index, c.split_point-half.ensures.below),
    (
      rest-right _ _ _ _ _ _ c.split_point-half.ensures c.if-index-half.false c.in-Some.ensures.cases.0
          c.requires.left_count,
      rest-right _ _ _ _ _ _ c.split_point-half.ensures c.if-index-half.false c.in-Some-split_last.ensures.cases.0
          c.requires.right_count,
    ),
  ),
)

pub returns-in-Hashed : goal.returns-in-Hashed
returns-in-Hashed t c =
    let below = rw c.in-Hashed.is at c.in_ok-one.ensures in
    IfOk-weaker _ _ _ (λ m meets. paths-left _ _ _ _ _ _ _ _ _ _ _ _ _ m c.split_point-half.ensures
    c.if-index-half.true c.in-Some.ensures.cases.0 c.in-Some-split_last.ensures.cases.0 below meets)
    c.meet_nodes.ensures

pub returns-in-Hashed-2 : goal.returns-in-Hashed-2
returns-in-Hashed-2 t c =
    let below = rw c.in-Hashed-2.is at c.in_ok-one-2.ensures in
    IfOk-weaker _ _ _ (λ m meets. paths-right _ _ _ _ _ _ _ _ _ _ _ _ _ m c.split_point-half.ensures
    c.if-index-half.false c.in-Some.ensures.cases.0 c.in-Some-split_last.ensures.cases.0 below meets)
    c.meet_nodes-in-Hashed-2.ensures
