use Rattle.std.proofs.Common.{◌≡◌, [], get_or, refl, sym, subst, ◌∙◌, arith}
use Rattle.std.proofs.lemmas.List.{get_or_default, length-set}
use Rattle.sig_json.proofs.OrderedMembers.{in_order-none, in_order-put}
use Rattle.sig_json.proofs.SortedMembers.{next_left, next_kept, none_left, no_entry}
use Rattle.sig_json.specs.Gathered.{Entry}
use Rattle.sig_json.specs.Sorting.{IsOrderOf}
use Rattle.sig_json.specs.declared.sort.Key.{Key}
use Rattle.sig_json.proofs.sort.sorted.Goals as goal

pub keys-init : goal.keys-init
keys-init c =
    let order = subst (IsOrderOf c.args.members.items) (sym c.as_slice-key-items.ensures.value)
    (subst (λ es. IsOrderOf es c.in_ok-order.order.items) c.as_slice.ensures.value c.in_ok-order.ensures) in
    let none : c.new-ordered.result.items ≡ [] = c.new-ordered.ensures.items in
    (λ d. rw none (order.same d), rw none in_order-none, refl, λ i key d from within. refl)

pub keys-preserved : goal.keys-preserved
keys-preserved c =
    let order = subst (IsOrderOf c.args.members.items) (sym c.as_slice-key-items.ensures.value)
    (subst (λ es. IsOrderOf es c.in_ok-order.order.items) c.as_slice.ensures.value c.in_ok-order.ensures) in
    let before = c.keys.invariant in
    let key : Key = record { rank = 0; index = 0 } in
    let items = c.as_slice-key-items.result.now in
    let there = order.within c.keys.key-index key c.keys-test.true in
    let value : (d : Entry) → c.replace-name.result
    ≡ get_or c.args.members.items (get_or items c.keys.key-index key).index d =
    λ d. c.replace-name.ensures.value ∙ c.index_mut.ensures.value
    ∙ get_or_default c.keys.members.items _ _ d (omega (arith, there, before.2))
    ∙ before.3 c.keys.key-index key d (omega arith) c.keys-test.true in (
      λ d. next_left c.args.members.items c.keys.members.items items c.keys.key-index key c.keys-test.true d
          c.replace-name.result c.keys.ordered.items c.put_from_last.new.members.items (value d)
          c.in_ok-put_from_last.ensures.ok (before.0 d),
      in_order-put c.keys.ordered.items c.put_from_last.new.members.items _ _ before.1 c.in_ok-put_from_last.ensures.ok,
      length-set c.keys.members.items _ _ ∙ before.2,
      λ i other d from within. next_kept c.args.members.items c.keys.members.items items c.keys.key-index key
          c.keys-test.true order c.replace-name.new.dest i other d from within
          (before.3 i other d (omega arith) within),
    )

pub returns : goal.returns
returns c =
    none_left c.args.members.items c.as_slice-key-items.result.now c.keys.key-index c.keys.ordered.items
    c.keys-test.false (c.keys.invariant.0 no_entry)
