-- For private clauses: which members of an object hold a float now, by their names.
use Rattle.std.specs.Prelude.{◌≡◌, ℕ, List, Bool, false, Option, Some, None}
use Rattle.serde_json.specs.Data.{Data, boolean, Members, put}
use Rattle.serde_json.specs.Find.{get_member}
use Rattle.serde_json.specs.Written.{has_float, members_have_float}
use Rattle.sig_base.specs.ByText.{KeysAscend}
use Rattle.sig_json.specs.Gathered.{gathered, AreInOrderIfFew}
use Rattle.sig_json.specs.Members.{members_list}
use Rattle.sig_json.specs.declared.notes.Notes.{Notes}

-- a test of what a name has, which nothing passes where the name has nothing
abbrev pub passes : (Data → Bool) → Option Data → Bool
passes test None = false
passes test (Some d) = test d

-- what a note says
abbrev pub says : Data → Bool
says (boolean float) = float
says d = false

-- the notes say of each name whether its member holds a float; a name without a note has none that does
pub record AreNoted (all : Members) (notes : Notes) : Type 0 where
  pub few : AreInOrderIfFew notes.noted.items
  pub same : (name : List ℕ) → passes says (get_member name (gathered notes.noted.items))
      ≡ passes has_float (get_member name all)

-- what was noted of any members is so of them and of one more, new or in place of the old one of its name
unfoldable pub NotesOneMore : (name : List ℕ) (float : Bool) → Notes → Notes → Type 0
NotesOneMore name float before after =
    (all : Members) (d : Data) → AreNoted all before → has_float d ≡ float → AreNoted (put name d all) after

-- any members of which these are the notes have a float, or none does
unfoldable pub Tells : (float : Bool) → Notes → Type 0
Tells float notes =
    (all : Members) → KeysAscend (members_list all) → AreNoted all notes → members_have_float all ≡ float
