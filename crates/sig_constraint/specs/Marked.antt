-- *Marked layer*: a layer whose payload has further annotations, which do not replace another value.
use Rattle.std.specs.Prelude.{◌≡◌, ℕ, List, [], ◌∷◌, All, Any, Bool, true, false, Option, Some, None, if◌then◌else◌}
use Rattle.std.specs.List.{list_all}
use Rattle.std.specs.Str.{bytes_eq}
use Rattle.sig_json.specs.Builders.{with_member}
use Rattle.sig_json.specs.Data.{Data, null, boolean, number, string, array, object, Members, no_members}
use Rattle.sig_json.specs.Find.{as_object, get}
use Rattle.sig_payload.specs.Annotations.{Asked}
use Rattle.sig_payload.specs.Signing.{Beside, Signing}
use Rattle.sig_cosign.specs.Layer.{Layer}

-- ---- the annotations that are there

abbrev pub object_or_empty : Option Members → Data
object_or_empty None = object no_members
object_or_empty (Some ms) = object ms

-- an object, without members if they are absent or not an object
abbrev pub annotations_of : Option Beside → Data
annotations_of None = object no_members
annotations_of (Some beside) = object_or_empty (as_object beside.extra)

-- the value of a name
abbrev pub annotation : Option Beside → List ℕ → Option Data
annotation None name = None
annotation (Some beside) name = get name beside.extra

abbrev pub is_string : List ℕ → Data → Bool
is_string text null = false
is_string text (boolean b) = false
is_string text (number n) = false
is_string text (string s) = bytes_eq s text
is_string text (array ds) = false
is_string text (object ms) = false

abbrev pub is_none_or_string : List ℕ → Option Data → Bool
is_none_or_string text None = true
is_none_or_string text (Some value) = is_string text value

-- the name has no value, or this text
abbrev pub is_free : Option Beside → List ℕ × List ℕ → Bool
is_free beside asked = is_none_or_string asked.1 (annotation beside asked.0)

abbrev pub are_free : Option Beside → Asked → Bool
are_free beside asked = list_all (is_free beside) asked

-- ---- the annotations that are added

-- each name with its text, set in turn
abbrev pub with_texts : Asked → Data → Data
with_texts [] d = d
with_texts (a ∷ rest) d = with_texts rest (with_member a.0 (string a.1) d)

-- what a signer says, with these annotations in place of the present ones
abbrev pub with_extra : Data → Option Beside → Beside
with_extra extra None = record { creator = None; timestamp = None; extra = extra }
with_extra extra (Some beside) =
    record { creator = beside.creator; timestamp = beside.timestamp; extra = extra }

abbrev pub marked_payload : Asked → Signing → Signing
marked_payload asked s = record {
  critical = s.critical;
  optional = Some (with_extra (with_texts asked (annotations_of s.optional)) s.optional);
}

abbrev pub marked : Asked → Layer → Layer
marked asked l = record l { simple_signing = marked_payload asked l.simple_signing }

-- the layer that is given, unless a name has another value
abbrev pub marker_gives : Asked → Layer → Option Layer
marker_gives asked l = if are_free l.simple_signing.optional asked then Some (marked asked l) else None

-- ---- in words

-- no name has a value other than its text
abbrev pub AreFree : Option Beside → Asked → Type 0
AreFree beside asked = All (λ a. (value : Data) → annotation beside a.0 ≡ Some value → value ≡ string a.1) asked

-- each name has its text
abbrev pub HaveTexts : Option Beside → Asked → Type 0
HaveTexts beside asked = All (λ a. annotation beside a.0 ≡ Some (string a.1)) asked

-- every other name has what it had
abbrev pub KeepOthers : Option Beside → Option Beside → Asked → Type 0
KeepOthers old new asked =
    (name : List ℕ) → ¬ Any (λ a. a.0 ≡ name) asked → annotation new name ≡ annotation old name
