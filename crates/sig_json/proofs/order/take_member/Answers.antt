-- A name that has no place among the members has no value.
use Rattle.std.proofs.Common.{subst, ℕ, Result}
use Rattle.sig_json.specs.Gathered.{IsPlaceOf}
use Rattle.sig_json.proofs.OrderedMembers.{found_nowhere}
use Rattle.sig_json.proofs.order.take_member.Goals as goal

pub returns : goal.returns
returns c =
    found_nowhere c.args.name.now c.args.members.items c.in-Err.field-0
    (subst (λ (r : Result ℕ ℕ). IsPlaceOf c.args.name.now c.args.members.items r) c.in-Err.is c.search.ensures)
