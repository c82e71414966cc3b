use Rattle.std.proofs.Common.{rules, arith}
use Rattle.sig_audit.proofs.Chains.{head-front, root-at, grown-before, older-front, none-front}
use Rattle.sig_audit.specs.Fronts.{IsOfFront}
use Rattle.sig_audit.proofs.head_collision.collision_beside.Goals as goal

pub pair_collision-requires-clause-grown : goal.pair_collision-requires-clause-grown
pair_collision-requires-clause-grown c =
    grown-before _ _ _ _ c.requires.chained.1 c.heads-test.true c.heads.invariant.below c.index-heads-place-in-heads.is
    c.index-heads-place.is

pub pair_collision-requires-clause-front : goal.pair_collision-requires-clause-front
pair_collision-requires-clause-front c =
    head-front _ _ _ _ c.heads.invariant.below c.heads.invariant.fronts c.index-heads-place.is

pub pair_collision-requires-clause-root : goal.pair_collision-requires-clause-root
pair_collision-requires-clause-root c =
    root-at _ _ _ _ _ _ c.requires.roots (omega (arith, c.heads.invariant.below)) c.index-heads-place-in-heads.is

pub heads-preserved : goal.heads-preserved
heads-preserved c =
    let of_front : IsOfFront c.args.entries.now c.index-heads-place-in-heads.result = search (rules, none-front) in record {
      below = omega (arith, c.heads.invariant.below);
      fronts =
          older-front _ _ _ _ c.heads-test.true c.heads.invariant.below c.heads.invariant.fronts
          c.index-heads-place-in-heads.is of_front;
    }
