-- The data (`serde_json`'s `Data`) that a tree of the code stands for: the tree of a document, level by level.
use Rattle.std.specs.Cow.{cow_str_bytes}
use Rattle.std.specs.Prelude.{List, [], ◌∷◌, map}
use Rattle.std.specs.declared.alloc.Global.{Global}
use Rattle.std.specs.declared.borrow.CowStr.{CowStr}
use Rattle.serde_json.specs.Data.{Data, null, boolean, number, string, array, object, Items}
use Rattle.serde_json.specs.Data.{Members, no_members, member}
use Rattle.serde_json.specs.View.{number_view, items_of}
use Rattle.sig_json.specs.declared.tree.Tree.{Tree, fold-Tree}
use Rattle.sig_json.specs.declared.tree.Tree.TheOpen.{Tree-F}

-- a name or a text, owned or borrowed
abbrev pub Words : Type 0
Words = CowStr Global

abbrev pub members_from : List (Words × Data) → Members
members_from [] = no_members
members_from (m ∷ ms) = member (cow_str_bytes m.0) m.1 (members_from ms)

-- one level, where the values inside are seen already
abbrev pub level : Tree-F Data → Data
level Tree-F.Null = null
level (Tree-F.Bool b) = boolean b
level (Tree-F.Number n) = number (number_view n)
level (Tree-F.Text text) = string (cow_str_bytes text)
level (Tree-F.Array items) = array (items_of items.items)
level (Tree-F.Object members) = object (members_from members.items)

abbrev pub view : Tree → Data
view = fold-Tree Data level

abbrev pub items_view : List Tree → Items
items_view trees = items_of (map view trees)

abbrev pub members_view : List (Words × Tree) → Members
members_view members = members_from (map (λ m. (m.0, view m.1)) members)
