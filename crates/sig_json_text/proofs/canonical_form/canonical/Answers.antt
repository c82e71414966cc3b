use Rattle.std.proofs.Common.{subst}
use Rattle.sig_json_text.proofs.KeptOrder.{written_in_order}
use Rattle.sig_json_text.specs.Order.{KeepsOrder}
use Rattle.sig_json_text.proofs.canonical_form.canonical.Goals as goal

pub returns-clause-ordered : goal.returns-clause-ordered
returns-clause-ordered c =
    subst (λ d. KeepsOrder d c.from.result) c.as_tree.ensures.value
    (written_in_order _ _ _ _ c.as_tree.ensures.named c.new-out.ensures.bytes c.in_ok-write_value.ensures
    c.from.ensures)
