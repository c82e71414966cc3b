-- *Large integers*: an integer outside plus or minus 2^53 - 1, which a number of 64 bits (IEEE 754) no longer keeps
-- apart from its neighbours (RFC 8785 section 3.2.2.3).
use Rattle.std.specs.Prelude.{ℤ, pos, ◌-◌, ◌^◌, ◌||◌, Bool, false, nat_lt, unsigned_abs}
use Rattle.serde_json.specs.Data.{Num, unsigned, negative, float, Data, null, boolean, number, string, array, object}
use Rattle.serde_json.specs.Data.{Items, no_items, item, Members, no_members, member}

unfoldable pub is_beyond : ℤ → Bool
is_beyond z = nat_lt (2 ^ 53 - 1) (unsigned_abs z)

abbrev pub is_large : Num → Bool
is_large (unsigned n) = is_beyond (pos n)
is_large (negative z) = is_beyond z
is_large (float x) = false

-- whether the tree holds such an integer, at any depth
abbrev mutual
  pub has_large : Data → Bool
  has_large null = false
  has_large (boolean b) = false
  has_large (number n) = is_large n
  has_large (string text) = false
  has_large (array ds) = items_have_large ds
  has_large (object ms) = members_have_large ms

  pub items_have_large : Items → Bool
  items_have_large no_items = false
  items_have_large (item d ds) = has_large d || items_have_large ds

  pub members_have_large : Members → Bool
  members_have_large no_members = false
  members_have_large (member name d ms) = has_large d || members_have_large ms
