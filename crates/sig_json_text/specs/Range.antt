-- For private clauses: trees whose integers fit 64 bits, as each number of the code does.
use Rattle.std.specs.Prelude.{◌<◌, ◌^◌, ⊤, pos, negsuc}
use Rattle.serde_json.specs.Data.{Num, unsigned, negative, float, Data, null, boolean, number, string, array, object}
use Rattle.serde_json.specs.Data.{Items, no_items, item, Members, no_members, member}

abbrev pub Fits : Num → Type 0
Fits (unsigned n) = n < 2 ^ 64
Fits (negative (pos n)) = ⊥
Fits (negative (negsuc n)) = n < 2 ^ 63
Fits (float x) = ⊥

abbrev mutual
  pub InRange : Data → Type 0
  InRange null = ⊤
  InRange (boolean b) = ⊤
  InRange (number n) = Fits n
  InRange (string text) = ⊤
  InRange (array ds) = AreInRange ds
  InRange (object ms) = HasValuesInRange ms

  pub AreInRange : Items → Type 0
  AreInRange no_items = ⊤
  AreInRange (item d ds) = InRange d × AreInRange ds

  pub HasValuesInRange : Members → Type 0
  HasValuesInRange no_members = ⊤
  HasValuesInRange (member name d ms) = InRange d × HasValuesInRange ms
