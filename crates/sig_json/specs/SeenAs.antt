-- How contracts see what a reader reads: an item, an item that may be none, and a list of items.
use Rattle.std.specs.Prelude.{◌≡◌, List, Option, map, option_map, refl}
use Rattle.std.proofs.lemmas.Iterator.Adapters.{option_map_id}
use Rattle.std.proofs.lemmas.List.{map-id}

-- each item has a value, and one that may be none and a list have the values of their items
pub record SeenAs (Item : Type 0) : Type 1 where
  pub Value : Type 0
  pub item : Item → Value
  pub option : Option Item → Option Value
  pub list : List Item → List Value
  pub option_is : (found : Option Item) → option_map item found ≡ option found
  pub list_is : (items : List Item) → map item items ≡ list items

-- an item is its own value
abbrev pub itself : {Item : Type 0} → SeenAs Item
itself {Item} =
    record {
      Value = Item;
      item = λ x. x;
      option = λ found. found;
      list = λ items. items;
      option_is = option_map_id;
      list_is = map-id;
    }

-- an item's value is this function of it
abbrev pub value_by : {Item Value : Type 0} → (Item → Value) → SeenAs Item
value_by {Item} {Value} f =
    record {
      Value = Value;
      item = f;
      option = option_map f;
      list = map f;
      option_is = λ found. refl;
      list_is = λ
          items. refl;
    }
