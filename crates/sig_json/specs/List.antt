-- The elements of a list of JSON (RFC 8259 section 5) in order.
use Rattle.std.specs.Prelude.{List, [], ◌∷◌, Option, option_map}
use Rattle.serde_json.specs.Data.{Data, Items, no_items, item}
use Rattle.serde_json.specs.Find.{as_array}

abbrev pub items_list : Items → List Data
items_list no_items = []
items_list (item d ds) = d ∷ items_list ds

-- none where the value is not a list
abbrev pub list_of : Data → Option (List Data)
list_of d = option_map items_list (as_array d)
