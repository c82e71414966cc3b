use Rattle.std.proofs.Common.{◌∙◌, ap, sym, Some, arith}
use Rattle.sig_merkle.proofs.PathLaws.{path_len-left, path_len-right}
use Rattle.sig_merkle.proofs.PathSteps.{fold_leaf, fold_several, fold_left, fold_right}
use Rattle.sig_merkle.proofs.recursion.+fold_path.Goals as goal

pub returns-in_default-clause-root : goal.returns-in_default-clause-root
returns-in_default-clause-root g t c =
    fold_leaf _ _ _ _ c.requires.count c.in_default.ensures.cases

pub split_point-half-requires : goal.split_point-half-requires
split_point-half-requires g t c = fold_several _ _ _ c.requires.count (omega (arith, c.in-Some.ensures.cases.1))

pub fold_path-left-requires : goal.fold_path-left-requires
fold_path-left-requires g t c κs within = grind (arith, path_len-left)

pub fold_path-right-requires : goal.fold_path-right-requires
fold_path-right-requires g t c κs within = grind (arith, path_len-right)

pub returns-then-index-half-clause-root : goal.returns-then-index-half-clause-root
returns-then-index-half-clause-root g t c =
    fold_left _ _ _ _ _ _ _ _ c.split_point-half.ensures c.if-index-half.true c.in-Some.ensures.cases.0
    c.fold_path-left.ensures.root ∙ ap (λ root. Some root) (sym c.hash_step.ensures.value)

pub returns-else-index-half-clause-root : goal.returns-else-index-half-clause-root
returns-else-index-half-clause-root g t c =
    fold_right _ _ _ _ _ _ _ _ c.split_point-half.ensures c.if-index-half.false c.in-Some.ensures.cases.0
    c.fold_path-right.ensures.root ∙ ap (λ root. Some root) (sym c.hash_step-else-index-half.ensures.value)
