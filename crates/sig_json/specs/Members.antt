-- The members of an object (RFC 8259 section 4) in the byte order of their names.
use Rattle.std.specs.Prelude.{ℕ, List, [], ◌∷◌, Option, option_map}
use Rattle.serde_json.specs.Data.{Data, Members, no_members, member}
use Rattle.serde_json.specs.Find.{as_object}

abbrev pub members_list : Members → List (List ℕ × Data)
members_list no_members = []
members_list (member name d ms) = (name, d) ∷ members_list ms

-- none where the value is not an object
abbrev pub members_of : Data → Option (List (List ℕ × Data))
members_of d = option_map members_list (as_object d)
