use Rattle.std.proofs.Common.{◌≡◌, ◌-◌, get_or, length, arith}
use Rattle.std.proofs.lemmas.Result.{IfOk-weaker}
use Rattle.sig_merkle.proofs.HalfSteps.{halves-length}
use Rattle.sig_merkle.proofs.PathSteps.{fold_several}
use Rattle.sig_merkle.proofs.EntryMeetings.{meets-leaf, meets-left, meets-right, rest-left, rest-right}
use Rattle.sig_merkle.proofs.entry_collision.+meet_entry.Goals as goal

pub returns-in_default : goal.returns-in_default
returns-in_default t c =
    let entry : c.as_slice.result.now ≡ get_or c.args.entries.now c.args.index c.as_slice.result.now =
    rw c.as_slice.ensures c.index-entries-index.is in
    IfOk-weaker c.meet_leaves.result _ _ (λ m meets. meets-leaf _ _ _ _ _ m c.requires.count c.in_default.ensures.cases
    c.requires.index entry meets) c.meet_leaves.ensures

pub halves-requires : goal.halves-requires
halves-requires t c = fold_several _ _ _ c.requires.count (omega (arith, c.in-Some.ensures.cases.1))

pub meet_entry-requires : goal.meet_entry-requires
meet_entry-requires t c = (
  omega (arith, c.in-Some.ensures.cases.1),
  (
    c.if-index-left.true,
    rest-left _ _ _ _ _ _ c.halves.ensures.split c.if-index-left.true c.in-Some.ensures.cases.0 c.requires.count,
  ),
)

pub meet_entry-requires-else-index-left : goal.meet_entry-requires-else-index-left
meet_entry-requires-else-index-left t c =
    let lengths = halves-length _ _ _ c.halves.ensures in
    let count : length c.halves.result.1.now ≡ length c.args.entries.now - length c.halves.result.0.now =
    omega arith in (
      omega (arith, c.in-Some.ensures.cases.1),
      (
        omega (arith, c.if-index-left.false, c.requires.index),
        rw count (rest-right _ _ _ _ _ _ c.halves.ensures.split c.if-index-left.false c.in-Some.ensures.cases.0
            c.requires.count),
      ),
    )

pub returns-in-Hashed : goal.returns-in-Hashed
returns-in-Hashed t c =
    let below = rw c.in-Hashed.is at c.in_ok-one.ensures in
    IfOk-weaker _ _ _ (λ m meets. meets-left _ _ _ _ _ _ _ _ _ _ m c.halves.ensures c.if-index-left.true
    c.in-Some.ensures.cases.0 below (rw (← c.root_in.ensures) meets)) c.meet_nodes.ensures

pub returns-in-Hashed-2 : goal.returns-in-Hashed-2
returns-in-Hashed-2 t c =
    let below = rw c.in-Hashed-2.is at c.in_ok-one-2.ensures in
    IfOk-weaker _ _ _ (λ m meets. meets-right _ _ _ _ _ _ _ _ _ _ m c.halves.ensures c.if-index-left.false
    c.requires.index c.in-Some.ensures.cases.0 below (rw (← c.root_in-in-Hashed-2.ensures) meets))
    c.meet_nodes-in-Hashed-2.ensures
