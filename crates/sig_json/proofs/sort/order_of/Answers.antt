-- The sort moves the keys, and those of the same name stay in their order.
use Rattle.std.proofs.Common.{◌≡◌, ap, subst, ◌∙◌, IsPermutation}
use Rattle.std.specs.List.Sorted.{IsStableBy}
use Rattle.sig_json.proofs.SortedMembers.{order_is}
use Rattle.sig_json.specs.Only.{names_of}
use Rattle.sig_json.specs.Sorting.{ranked, entry_names, comes_first}
use Rattle.sig_json.proofs.sort.order_of.Goals as goal

pub returns : goal.returns
returns c =
    let names : names_of c.as_slice-2.result.now ≡ entry_names c.args.members.now =
    ap names_of c.as_slice-2.ensures.value ∙ c.in_ok-names.ensures in
    let again : names_of c.as_slice-3.result.now ≡ entry_names c.args.members.now =
    ap names_of c.as_slice-3.ensures.value ∙ c.in_ok-names.ensures in
    let keys : c.in_ok-keys.keys.items ≡ ranked c.shared-from.result 0 (entry_names c.args.members.now) =
    c.in_ok-keys.ensures ∙ ap (ranked c.shared-from.result 0) names in
    order_is c.shared-from.result c.args.members.now c.put_in_order.new.keys.items
    (subst (λ ks. IsPermutation ks c.put_in_order.new.keys.items) keys c.in_ok-put_in_order.ensures.moved)
    (subst (λ ks. IsStableBy (comes_first (entry_names c.args.members.now)) ks c.put_in_order.new.keys.items) keys
    (subst (λ ns. IsStableBy (comes_first ns) c.in_ok-keys.keys.items c.put_in_order.new.keys.items) again
    c.in_ok-put_in_order.ensures.stable))
