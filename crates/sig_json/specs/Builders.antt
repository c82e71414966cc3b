-- Trees built from their parts.
use Rattle.std.specs.Prelude.{ℕ, List}
use Rattle.serde_json.specs.Data.{Data, null, boolean, number, string, array, object, Items, no_items, item, put}

-- an object with this value at this name, new or in place of the old one; `put` keeps the byte order of names
abbrev pub with_member : List ℕ → Data → Data → Data
with_member name value null = null
with_member name value (boolean b) = boolean b
with_member name value (number n) = number n
with_member name value (string s) = string s
with_member name value (array ds) = array ds
with_member name value (object ms) = object (put name value ms)

abbrev pub items_with_last : Items → Data → Items
items_with_last no_items value = item value no_items
items_with_last (item d ds) value = item d (items_with_last ds value)

-- a list with this value at its end
abbrev pub with_last : Data → Data → Data
with_last value null = null
with_last value (boolean b) = boolean b
with_last value (number n) = number n
with_last value (string s) = string s
with_last value (array ds) = array (items_with_last ds value)
with_last value (object ms) = object ms
