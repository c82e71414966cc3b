-- For private clauses: parts of a text that are read without a tree of them.
use Rattle.std.specs.Cow.{cow_str_bytes}
use Rattle.std.specs.Prelude.{◌≡◌, ◌⊎◌, ℕ, Bool, true, false, not, List, [], ◌∷◌, ◌++◌, length, Option, Some}
use Rattle.std.specs.Str.{IsUtf8}
use Rattle.json.specs.Json.{value, items, members}
use Rattle.json.specs.Token.{Token}
use Rattle.serde_json.specs.Data.{Num, Data, object, Items, Members, no_members}
use Rattle.serde_json.specs.Find.{is_float}
use Rattle.serde_json.specs.Read.{number_of, of_json, of_items, of_members, converted, read}
use Rattle.serde_json.specs.Written.{has_float, items_have_float, members_have_float}
use Rattle.sig_json.specs.Gathered.{Entry}
use Rattle.sig_json.specs.NamedTree.{IsNamedTree}
use Rattle.sig_json.specs.Noted.{NotesOneMore}
use Rattle.sig_json.specs.Only.{is_among, members_where}
use Rattle.sig_json.specs.View.{Words, view}
use Rattle.sig_json.specs.declared.notes.Notes.{Notes}
use Rattle.sig_json.specs.declared.tree.Tree.{Tree}

-- what the tokens mean as a value, as the elements of a list and as the members of an object, to this depth, and the
-- tokens after it
abbrev pub value_meant : ℕ → List Token → Option (Data × List Token)
value_meant depth ts = converted of_json (value depth ts)

abbrev pub items_meant : ℕ → List Token → Option (Items × List Token)
items_meant depth ts = converted of_items (items (value depth) (length ts) ts)

abbrev pub members_meant : ℕ → List Token → Option (Members × List Token)
members_meant depth ts = converted (λ ms. of_members ms no_members) (members (value depth) (length ts) ts)

-- a number, and whether it is held as a float
pub record IsNumber (float : Bool) (text : List ℕ) : Type 0 where
  pub value : Num
  pub is : number_of text ≡ Some value
  pub held : is_float value ≡ float

-- a value, whose tokens end before `rest`, and whether it has a float
pub record PassesValue (float : Bool) (depth : ℕ) (ts rest : List Token) : Type 0 where
  pub value : Data
  pub is : value_meant depth ts ≡ Some (value, rest)
  pub held : has_float value ≡ float

-- the same of the elements of a list, after its bracket, and of the members of an object, after its brace
pub record PassesItems (float : Bool) (depth : ℕ) (ts rest : List Token) : Type 0 where
  pub items : Items
  pub are : items_meant depth ts ≡ Some (items, rest)
  pub held : items_have_float items ≡ float

pub record PassesMembers (float : Bool) (depth : ℕ) (ts rest : List Token) : Type 0 where
  pub all : Members
  pub are : members_meant depth ts ≡ Some (all, rest)
  pub held : members_have_float all ≡ float

-- the value of a member of a listed name, whose tokens end before `rest`, is kept after those that were kept before
pub record KeepsValue (names : List (List ℕ)) (depth : ℕ) (name : List ℕ) (ts rest : List Token)
    (before after : List Entry) (noted now : Notes) : Type 0 where
  pub listed : is_among names name ≡ true
  pub key : Words
  pub value : Tree
  pub same : cow_str_bytes key ≡ name
  pub utf8 : IsUtf8 (cow_str_bytes key)
  pub is : value_meant depth ts ≡ Some (view value, rest)
  pub named : IsNamedTree (view value)
  pub added : after ≡ before ++ (key, value) ∷ []
  pub same_notes : now ≡ noted

-- the value of a member of another name is passed over and noted, and what was kept stays
pub record LeavesValue (names : List (List ℕ)) (depth : ℕ) (name : List ℕ) (ts rest : List Token)
    (before after : List Entry) (noted now : Notes) : Type 0 where
  pub other : is_among names name ≡ false
  pub float : Bool
  pub passed : PassesValue float depth ts rest
  pub one_more : NotesOneMore name float noted now
  pub stays : after ≡ before

abbrev pub TakesValue : List (List ℕ) → ℕ → List ℕ → (ts rest : List Token) → (before after : List Entry)
    → (noted now : Notes) → Type 0
TakesValue names depth name ts rest before after noted now =
    KeepsValue names depth name ts rest before after noted now
    ⊎ LeavesValue names depth name ts rest before after noted now

-- the members of other names
abbrev pub others_of : List (List ℕ) → Members → Members
others_of names = members_where (λ name. not (is_among names name))

-- of all members these are kept, and this is whether the others have a float
pub record AreKeptMembers (float : Bool) (names : List (List ℕ)) (all kept : Members) : Type 0 where
  pub are : members_where (is_among names) all ≡ kept
  pub held : members_have_float (others_of names all) ≡ float

-- the tokens are those of members of which these are kept
pub record KeepsMembers (float : Bool) (names : List (List ℕ)) (depth : ℕ) (ts rest : List Token) (kept : Members)
    : Type 0 where
  pub all : Members
  pub are : members_meant depth ts ≡ Some (all, rest)
  pub part : AreKeptMembers float names all kept

-- the text is an object, of whose members these are kept
pub record KeepsOf (float : Bool) (names : List (List ℕ)) (text : List ℕ) (kept : Members) : Type 0 where
  pub all : Members
  pub is : read text ≡ Some (object all)
  pub part : AreKeptMembers float names all kept
