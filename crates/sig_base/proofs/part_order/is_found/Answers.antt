-- The search finds an index if and only if some row has the part.
use Rattle.std.proofs.Common.{rules, ◌≡◌, ◌↔◌, sym, subst, true}
use Rattle.std.specs.Bool.{one_answer}
use Rattle.std.proofs.lemmas.Fn.{always_returns_same}
use Rattle.sig_base.specs.PartOrder.{has_part}
use Rattle.sig_base.proofs.PartOrders.{finds_part, sought}
use Rattle.sig_base.proofs.part_order.is_found.Goals as goal

pub returns : goal.returns
returns c =
    let inside = finds_part c.args.part c.args.rows.now c.args.bytes.now c.args.order.now c.binary_search_by.result
    c.requires (c.binary_search_by.ensures.position (sought c.args.part c.args.rows.now c.args.bytes.now)
    (always_returns_same _ _ _ (λ a r f' k. search rules))) in
    one_answer _ _ (subst (λ b. (b ≡ true) ↔ (has_part c.args.part c.args.rows.now c.args.bytes.now ≡ true))
    (sym c.is_ok.ensures.value) inside) (λ e. e, λ e. e)
