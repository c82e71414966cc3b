-- What a walk over the members of an object shows.
use Rattle.std.specs.Prelude.{ℕ, List}
use Rattle.std.specs.Borrow.{Bor}
use Rattle.serde_json.specs.Data.{Data}
use Rattle.sig_json.specs.View.{members_view}
use Rattle.sig_json.specs.Members.{members_list}
use Rattle.sig_json.specs.Tree.{tree}
use Rattle.sig_json.specs.declared.members.Members.{Members}
use Rattle.sig_json.specs.declared.view.Json.{Json}

-- the members that a walk has left
abbrev pub members_left : Members → List (List ℕ × Data)
members_left members = members_list (members_view members.left.now)

-- the name and the tree that a step of a walk shows
abbrev pub shown : Bor (List ℕ) × Json → List ℕ × Data
shown p = (p.0.now, tree p.1)
