use Rattle.std.proofs.Common.{◌≡◌, ◌∙◌, arith, sym, ap}
use Rattle.sig_merkle.specs.Root.{root}
use Rattle.sig_merkle.proofs.HalfSteps.{root-empty, root-single, root-over}
use Rattle.sig_merkle.proofs.tree.+tree_in.Goals as goal

pub returns-in-empty-clause-root : goal.returns-in-empty-clause-root
returns-in-empty-clause-root g t c = c.empty_root.ensures ∙ sym (root-empty c.args.entries.now c.in-empty.len_below)

pub returns-in-len1-clause-root : goal.returns-in-len1-clause-root
returns-in-len1-clause-root g t c = grind (arith, root-single)

pub returns-then-is_repeated-clause-root : goal.returns-then-is_repeated-clause-root
returns-then-is_repeated-clause-root g t c =
    let same : c.halves.result.0.now ≡ c.halves.result.1.now = c.is_repeated.ensures.0 c.if-is_repeated.true in
    let right : c.tree_in-one.result.root ≡ root c.halves.result.1.now = c.tree_in-one.ensures.root ∙ ap root same in
    root-over _ _ _ _ _ _ c.halves.ensures c.tree_in-one.ensures.root right c.node.ensures.value

pub returns-else-one-clause-root : goal.returns-else-one-clause-root
returns-else-one-clause-root g t c =
    root-over _ _ _ _ _ _ c.halves.ensures c.tree_in-one.ensures.root c.tree_in-other.ensures.root
    c.hash_step.ensures.value
