-- Trees that are written: objects made of rows, and values that are read back.
use Rattle.std.specs.Prelude.{◌≡◌, ℕ, ℤ, List, [], ◌∷◌, Option, Some, None, unwrap_or, ⊤}
use Rattle.std.specs.Fmt.{signed_decimal}
use Rattle.sig_base.specs.Base64.{base64_text}
use Rattle.serde_json.specs.Data.{Data, string, array, object, Items, no_items, item, Members, no_members, put}
use Rattle.serde_json.specs.Find.{as_object}
use Rattle.sig_json.specs.declared.object.Object.{Object}
use Rattle.sig_json.specs.Member.{not_null}
use Rattle.sig_json.specs.Tree.{document_tree}

-- a name, and the value that is written under it, if any
abbrev pub TreeMember : Type 0
TreeMember = List ℕ × Option Data

abbrev pub put_some : List ℕ → Option Data → Members → Members
put_some name None ms = ms
put_some name (Some value) ms = put name value ms

abbrev pub members_into : Members → List TreeMember → Members
members_into ms [] = ms
members_into ms (row ∷ rows) = members_into (put_some row.0 row.1 ms) rows

-- the object of the rows whose value is there; its members are in the byte order of their names
abbrev pub object_of : List TreeMember → Data
object_of rows = object (members_into no_members rows)

abbrev pub members_in : Data → Members
members_in d = unwrap_or (as_object d) no_members

-- the members of an object that is being written
abbrev pub members : Object → Members
members o = members_in (document_tree o.document)

-- ---- values: integers are written as texts, and bytes in base64 (RFC 4648 section 4)

unfoldable pub integer_tree : ℤ → Data
integer_tree z = string (signed_decimal z)

unfoldable pub bytes_tree : List ℕ → Data
bytes_tree bytes = string (base64_text bytes)

abbrev pub items_of : {A : Type 0} → (A → Data) → List A → Items
items_of written [] = no_items
items_of written (x ∷ xs) = item (written x) (items_of written xs)

abbrev pub list_tree : {A : Type 0} → (A → Data) → List A → Data
list_tree written xs = array (items_of written xs)

-- ---- read back

-- the value is there, and a reader takes it for x
abbrev pub IsReadAs : {A : Type 0} → (Data → Option A) → Data → A → Type 0
IsReadAs kind d x = (kind d ≡ Some x) × (not_null d ≡ Some d)

abbrev pub OptionIsRead : {A : Type 0} → (Data → Option A) → (A → Data) → Option A → Type 0
OptionIsRead kind written None = ⊤
OptionIsRead kind written (Some x) = IsReadAs kind (written x) x
