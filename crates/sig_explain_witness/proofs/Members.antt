-- Members that are set after others.
use Rattle.std.proofs.Common.{◌≡◌, List, [], ◌∷◌, ◌++◌, refl}
use Rattle.sig_json.specs.Writing.{TreeMember, members_into, put_some}
use Rattle.sig_json.specs.Data.{Members}

pub members_after : (ms : Members) (rows others : List TreeMember)
    → members_into ms (rows ++ others) ≡ members_into (members_into ms rows) others
members_after ms [] others = refl
members_after ms (row ∷ rows) others = members_after (put_some row.0 row.1 ms) rows others
