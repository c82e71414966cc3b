use Rattle.std.proofs.Common.{◌≡◌, ◌-◌, length, arith}
use Rattle.std.proofs.lemmas.Result.{IfOk-weaker}
use Rattle.sig_merkle.proofs.HalfSteps.{halves-length}
use Rattle.sig_merkle.proofs.GrowthMeetings.{growth-known, growth-last, growth-left, growth-right}
use Rattle.sig_merkle.proofs.GrowthMeetings.{growth_rest-left, growth_rest-right}
use Rattle.sig_merkle.proofs.growth_collision.+meet_growth.Goals as goal

pub returns-in_default : goal.returns-in_default
returns-in_default t c =
    growth-known _ _ _ _ _ _ c.requires.some c.requires.within c.requires.count c.in_default.ensures.cases
    c.root_in.ensures

pub returns-then-old_size-entries : goal.returns-then-old_size-entries
returns-then-old_size-entries t c =
    growth-last _ _ _ _ _ _ _ _ c.if-old_size-entries.true c.requires.count c.in-Some.ensures.cases.0
    c.root_in-then-old_size-entries.ensures

pub meet_growth-requires : goal.meet_growth-requires
meet_growth-requires t c = (
  omega (arith, c.in-Some.ensures.cases.1),
  (
    c.requires.some,
    (
      c.if-old_size-left.true,
      growth_rest-left _ _ _ _ _ _ _ c.halves.ensures.split c.if-old_size-left.true c.in-Some.ensures.cases.0
          c.requires.count,
    ),
  ),
)

pub meet_growth-requires-else-old_size-left : goal.meet_growth-requires-else-old_size-left
meet_growth-requires-else-old_size-left t c =
    let lengths = halves-length _ _ _ c.halves.ensures in
    let count : length c.halves.result.1.now ≡ length c.args.entries.now - length c.halves.result.0.now =
    omega arith in (
      omega (arith, c.in-Some.ensures.cases.1),
      (
        omega (arith, c.if-old_size-left.false),
        (
          omega (arith, c.requires.within),
          rw count (growth_rest-right _ _ _ _ _ _ _ c.halves.ensures.split c.if-old_size-left.false
              (omega (arith, c.requires.within, c.if-old_size-entries.false)) c.in-Some.ensures.cases.0
              c.requires.count),
        ),
      ),
    )

pub returns-in-Hashed : goal.returns-in-Hashed
returns-in-Hashed t c =
    let below = rw c.in-Hashed.is at c.in_ok-one.ensures in
    IfOk-weaker _ _ _ (λ m meets. growth-left _ _ _ _ _ _ _ _ _ _ _ m c.halves.ensures c.if-old_size-left.true
    c.in-Some.ensures.cases.0 below (rw (← c.root_in-in-Hashed.ensures) meets)) c.meet_nodes.ensures

pub returns-in-Hashed-2 : goal.returns-in-Hashed-2
returns-in-Hashed-2 t c =
    let below = rw c.in-Hashed-2.is at c.in_ok-one-2.ensures in
    IfOk-weaker _ _ _ (λ m meets. growth-right _ _ _ _ _ _ _ _ _ _ _ m c.halves.ensures c.if-old_size-left.false
    (omega (arith, c.requires.within, c.if-old_size-entries.false)) c.in-Some.ensures.cases.0 below
    (rw (← c.root_in-in-Hashed-2.ensures) meets)) c.meet_nodes-in-Hashed-2.ensures
