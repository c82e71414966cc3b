-- The list has the rows so far, and in the end all of them, or has no room for the next.
use Rattle.std.proofs.Common.{◌<◌, ◌≤◌, ◌∙◌, arith, length, subst, true}
use Rattle.sig_gate_command.proofs.Listings.{left-enough, left-more, put-room, rows-more, rows-past, rows-whole}
use Rattle.sig_gate_command.specs.RowList.{IsPut}
use Rattle.sig_gate_command.proofs.rows.add_rows.Goals as goal

pub add-requires-clause-left : goal.add-requires-clause-left
add-requires-clause-left c =
    let below : c.asked.row-index < length c.args.asked.now = omega (arith, c.asked-test.true) in
    left-enough c.args.asked.now c.args.asked.now c.asked.row-index c.row-item.result below c.row-item.is
    c.args.rows.now.left c.asked.rows.left c.requires.left c.asked.invariant.3

pub asked-preserved : goal.asked-preserved
asked-preserved c =
    let rows = c.args.asked.now in
    let place = c.asked.row-index in
    let row = c.row-item.result in
    let below : place < length rows = omega (arith, c.asked-test.true) in
    let put : IsPut c.row-item.result c.asked.rows c.add.new.self true =
    subst (IsPut c.row-item.result c.asked.rows c.add.new.self) c.if-not-branch.false c.in_ok-add.ensures in (
      λ before so_far. rows-more before rows place row below c.row-item.is c.asked.rows c.add.new.self
          (c.asked.invariant.0 before so_far) put,
      put-room row c.asked.rows c.add.new.self c.asked.invariant.1 put,
      put.0.most ∙ c.asked.invariant.2,
      left-more rows rows place row below c.row-item.is c.args.rows.now.left c.asked.rows.left c.add.new.self.left
          c.asked.invariant.3 put.0.left,
    )

pub returns-then-not-branch-clause-added : goal.returns-then-not-branch-clause-added
returns-then-not-branch-clause-added c before so_far =
    let below : c.asked.row-index < length c.args.asked.now = omega (arith, c.asked-test.true) in
    rows-past before c.args.asked.now c.asked.row-index c.row-item.result below c.row-item.is c.asked.rows
    c.add.new.self (c.asked.invariant.0 before so_far)
    (subst (IsPut c.row-item.result c.asked.rows c.add.new.self) c.if-not-branch.true c.in_ok-add.ensures)

pub returns-then-not-branch-clause-most : goal.returns-then-not-branch-clause-most
returns-then-not-branch-clause-most c =
    (subst (IsPut c.row-item.result c.asked.rows c.add.new.self) c.if-not-branch.true c.in_ok-add.ensures).0.most
    ∙ c.asked.invariant.2

pub returns-clause-added : goal.returns-clause-added
returns-clause-added c before so_far =
    let all : length c.args.asked.now ≤ c.asked.row-index = omega (arith, c.asked-test.false) in
    rows-whole before c.args.asked.now c.asked.row-index c.asked.rows all (c.asked.invariant.0 before so_far)
