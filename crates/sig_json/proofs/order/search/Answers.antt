use Rattle.std.proofs.Common.{rules}
use Rattle.std.proofs.lemmas.Fn.{always_returns_same}
use Rattle.std.specs.Cow.{cow_str_bytes}
use Rattle.std.specs.Cmp.Lexicographic.{slice_cmp}
use Rattle.std.specs.Ordering.{nat_cmp}
use Rattle.std.specs.declared.cmp.Ordering.{Ordering}
use Rattle.sig_json.proofs.OrderedMembers.{searched}
use Rattle.sig_json.specs.Gathered.{Entry}
use Rattle.sig_json.proofs.order.search.Goals as goal

-- the closure compares a member's name with the one that is looked for
pub returns : goal.returns
returns c =
    let facts = c.binary_search_by.ensures in
    let compared : Entry → Ordering = λ e. slice_cmp nat_cmp (cow_str_bytes e.0) c.args.name.now in
    let by_name = facts.position compared (always_returns_same _ _ _ (λ a r g called. (search rules, search rules))) in
    rw (← c.deref.ensures.value) (searched c.args.name.now _ _ (rw c.deref.ensures.value c.requires) facts.bound
    by_name)
