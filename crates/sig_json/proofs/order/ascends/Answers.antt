use Rattle.std.proofs.Common.{◌≡◌, Bool, rules, subst}
use Rattle.std.proofs.lemmas.List.Sorted.{answers_always}
use Rattle.std.specs.Cow.{cow_str_bytes}
use Rattle.std.specs.Cmp.Lexicographic.{slice_cmp}
use Rattle.std.specs.List.{IsAllAdjacentAnswer}
use Rattle.std.specs.Ordering.{nat_cmp, is_lt}
use Rattle.sig_json.proofs.OrderedMembers.{in_order_from_steps}
use Rattle.sig_json.specs.Gathered.{Entry}
use Rattle.sig_json.proofs.order.ascends.Goals as goal

-- the closure compares the names of two members
pub returns : goal.returns
returns c is =
    let below : Entry → Entry → Bool = λ x y. is_lt (slice_cmp nat_cmp (cow_str_bytes x.0) (cow_str_bytes y.0)) in
    let steps = c.is_sorted_by.ensures.cases below (answers_always _ _ _ (λ f a r g called. search rules)) in
    in_order_from_steps _ (subst (IsAllAdjacentAnswer (λ x y b. b ≡ below x y) c.args.members.now) is steps)
