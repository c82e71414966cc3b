-- Rows that are set after others.
use Rattle.std.proofs.Common.{◌≡◌, List, [], ◌∷◌, ◌++◌, Result, Ok, Err, refl, sym, ap, ◌∙◌}
use Rattle.std.specs.Prelude.{IfOk}
use Rattle.sig_base.specs.declared.memory.OutOfMemory.{OutOfMemory}
use Rattle.sig_json.specs.Writing.{TreeMember, members, members_into, put_some}
use Rattle.sig_json.specs.declared.object.Object.{Object}
use Rattle.sig_json.specs.Data.{Members}

pub members_into-append : (ms : Members) (xs ys : List TreeMember)
    → members_into ms (xs ++ ys) ≡ members_into (members_into ms xs) ys
members_into-append ms [] ys = refl
members_into-append ms (row ∷ xs) ys = members_into-append (put_some row.0 row.1 ms) xs ys

-- an object with some rows, and then with others
pub then_rows : (object first : Object) (xs ys : List TreeMember) (result : Result Object OutOfMemory)
    → members first ≡ members_into (members object) xs
    → IfOk result (λ made. members made ≡ members_into (members first) ys)
    → IfOk result (λ made. members made ≡ members_into (members object) (xs ++ ys))
then_rows object first xs ys (Ok made) one other =
    other ∙ (ap (λ ms. members_into ms ys) one ∙ sym (members_into-append (members object) xs ys))
then_rows object first xs ys (Err memory) one other = tt
