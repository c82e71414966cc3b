-- *Named trees*: the names of each object are texts in byte order, as the keys of a map from strings are.
use Rattle.std.specs.Prelude.{◌≢◌, ⊤}
use Rattle.std.specs.List.{AllByRecursion}
use Rattle.std.specs.Map.{keys_of}
use Rattle.std.specs.Str.{IsUtf8}
use Rattle.sig_base.specs.ByText.{KeysAscend}
use Rattle.serde_json.specs.Data.{Data, null, boolean, number, string, array, object, Items, no_items, item, Members}
use Rattle.serde_json.specs.Data.{no_members, member}
use Rattle.sig_json.specs.Members.{members_list}

-- each name is a text (UTF-8), and below those after it in byte order: so none is there twice
abbrev pub NamesAscend : Members → Type 0
NamesAscend ms = AllByRecursion IsUtf8 (keys_of (members_list ms)) × KeysAscend (members_list ms)

-- each name is a text (UTF-8), and no later member has it too
abbrev pub HasNames : Members → Type 0
HasNames no_members = ⊤
HasNames (member name d ms) =
    IsUtf8 name × AllByRecursion (λ other. name ≢ other) (keys_of (members_list ms)) × HasNames ms

-- the names of each object of a tree, at every depth
abbrev mutual
  pub IsNamedTree : Data → Type 0
  IsNamedTree null = ⊤
  IsNamedTree (boolean b) = ⊤
  IsNamedTree (number n) = ⊤
  IsNamedTree (string text) = ⊤
  IsNamedTree (array ds) = AreNamed ds
  IsNamedTree (object ms) = NamesAscend ms × HasNamedValues ms

  pub AreNamed : Items → Type 0
  AreNamed no_items = ⊤
  AreNamed (item d ds) = IsNamedTree d × AreNamed ds

  pub HasNamedValues : Members → Type 0
  HasNamedValues no_members = ⊤
  HasNamedValues (member name d ms) = IsNamedTree d × HasNamedValues ms
