use Rattle.std.proofs.Common.{◌≡◌, ◌+◌, ◌-◌, Bool, List, map, sym, ap, arith, ◌∙◌}
use Rattle.sig_x509.proofs.Bits.{rows_more, rows_none}
use Rattle.sig_x509.proofs.PossibleRows.{up_none, up_next}
use Rattle.sig_x509.specs.Possible.{below, up_at, node_leads}
use Rattle.sig_x509.proofs.reach.up_rows.Goals as goal

pub levels-init : goal.levels-init
levels-init c = (
  omega arith,
  c.in_ok-row.ensures ∙ sym (up_none c.args.nodes.now),
  rows_none (up_at c.args.nodes.now) c.new-rows.result c.new-rows.ensures,
)

pub levels-preserved : goal.levels-preserved
levels-preserved c = (
  omega arith,
  c.in_ok-next.ensures
      ∙ ap (λ (row : List Bool). map (node_leads (5 - c.levels.left) row) c.args.nodes.now)
      (c.as_slice.ensures ∙ c.levels.invariant.1)
      ∙ sym (up_next c.args.nodes.now c.levels.left),
  rows_more (up_at c.args.nodes.now) c.levels.left c.levels.rows c.push.new.self c.levels.row c.levels.invariant.2
      c.levels.invariant.1 c.in_ok-push.ensures.ok,
)

pub returns : goal.returns
returns c =
    let last : c.levels.left + 1 ≡ 7 = omega arith in
    rows_more (up_at c.args.nodes.now) c.levels.left c.levels.rows c.push-2.new.self c.levels.row c.levels.invariant.2
    c.levels.invariant.1 c.in_ok-push-2.ensures.ok
    ∙ ap (λ (n : _). map (up_at c.args.nodes.now) (below n)) last
