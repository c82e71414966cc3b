use Rattle.std.proofs.Common.{rules, ◌≡◌, refl, ◌∙◌}
use Rattle.std.proofs.lemmas.Result.{IfOk-weaker}
use Rattle.sig_audit.proofs.Chains.{grown-consistent, older-known, older-decided}
use Rattle.sig_audit.proofs.head_collision.pair_collision.Goals as goal

pub returns-then-eq-clause-none : goal.returns-then-eq-clause-none
returns-then-eq-clause-none c =
    let same : c.args.older.now.hash ≡ c.args.front_root.now = search rules in
    (λ _. older-known c.args.entries.now c.args.older.now c.args.head.now c.requires.grown c.requires.front (same ∙ c.requires.root), λ _. refl)

pub consistency_collision_in-requires : goal.consistency_collision_in-requires
consistency_collision_in-requires c = grown-consistent c.args.entries.now c.args.older.now c.args.head.now _ c.requires.grown c.requires.front c.as_slice.ensures

pub returns-clause-none : goal.returns-clause-none
returns-clause-none c =
    IfOk-weaker _ _ _ (λ found none. older-decided c.args.entries.now c.args.older.now c.args.head.now found c.requires.grown c.requires.front none)
    c.consistency_collision_in.ensures.none
