-- One place more, with the copy at the end of the buffer.
use Rattle.std.proofs.Common.{◌≡◌, ◌++◌, length, ap, ◌∙◌, arith, rules}
use Rattle.std.proofs.lemmas.Grind.{common_steps}
use Rattle.sig_x509.proofs.KeyCopies.{one_more_copy}
use Rattle.sig_x509.proofs.key_order.copy_keys.Goals as goal

pub order-preserved : goal.order-preserved
order-preserved c =
    let grown : c.extend_from_slice.new.self.items ≡ c.order.buffer.items ++ c.spki_at-spki.result.now =
    c.in_ok-extend_from_slice.ensures.items in
    let start : c.len-start.result ≡ length c.order.buffer.items =
    first_of (omega (arith, c.len-start.ensures, c.order.buffer.ok), search rules) in
    let end : c.len-end.result ≡ length c.extend_from_slice.new.self.items =
    first_of (omega (arith, c.len-end.ensures, c.extend_from_slice.new.self.ok), search rules) in (
      first_of (search rules, grind (arith, common_steps)),
      rw (c.in_ok-push.ensures.items, grown)
          (one_more_copy c.args.from c.args.anchors.now c.order.buffer.items c.spki_at-spki.result.now c.order.places.items _
          start (end ∙ ap length grown) c.spki_at-spki.ensures c.rank_from.ensures c.order.invariant.1),
    )
