-- The new index joins the others, and the sort moves them all.
use Rattle.std.proofs.Common.{ℕ, ◌+◌, ◌<◌, ◌≡◌, List, length, arith, sym, subst, ap, length-append}
use Rattle.std.specs.Prelude.{Contains}
use Rattle.std.proofs.lemmas.List.Sorted.{Contains-permutation}
use Rattle.sig_base.specs.declared.checker.AcceptedRow.{AcceptedRow}
use Rattle.sig_base.specs.RowOrder.{Ascends}
use Rattle.sig_base.proofs.RowOrders.{covers_more}
use Rattle.sig_base.proofs.checker.TableChecker.push.Goals as goal

pub invariant_of-self-2 : goal.invariant_of-self-2
invariant_of-self-2 c =
    let before : (index : ℕ) → index < c.len-index.result → Contains c.reserve.new.self.items index = λ index below.
    subst (λ (l : List ℕ). Contains l index) (sym c.in_ok-reserve.ensures.items)
    (c.self.invariant.0.covers index (omega arith)) in
    let longer : length c.push.new.self ≡ c.len-index.result + 1 =
    omega (arith, simp length-append at (ap length c.in_ok-push.ensures.ok)) in (
      record {
        covers = λ index below. Contains-permutation _ _ index c.put_in_order.ensures.moved
            (covers_more c.len-index.result _ _ c.in_ok-push-2.ensures.items before index (omega arith));
        ascends =
            subst (λ (rows : List AcceptedRow). Ascends rows c.put_in_order.new.order.items) c.as_slice.ensures
            c.put_in_order.ensures.ascends;
      },
      tt,
    )
