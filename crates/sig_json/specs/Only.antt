-- *Only*: what a reader is shown that asks for the members of some names and ignores all others.
use Rattle.std.specs.Prelude.{ℕ, List, map, Bool, not, Result, Ok, Err, if◌then◌else◌}
use Rattle.std.specs.Borrow.{Bor}
use Rattle.std.specs.List.{list_any}
use Rattle.std.specs.Str.{bytes_eq}
use Rattle.serde_json.specs.Data.{Data, null, boolean, number, string, array, object, Members, no_members, member}
use Rattle.sig_json.specs.declared.error.DocumentError.{DocumentError}

-- whether the name is one of these: names are the same where their bytes are, escapes resolved (RFC 8259 section 8.3)
abbrev pub is_among : List (List ℕ) → List ℕ → Bool
is_among names name = list_any (λ other. bytes_eq other name) names

-- the members whose names pass a test
abbrev pub members_where : (List ℕ → Bool) → Members → Members
members_where test no_members = no_members
members_where test (member name d ms) =
    if test name then member name d (members_where test ms) else members_where test ms

-- an object (RFC 8259 section 4) with those of its members alone whose names pass a test; any other value as it is
abbrev pub object_where : (List ℕ → Bool) → Data → Data
object_where test null = null
object_where test (boolean b) = boolean b
object_where test (number n) = number n
object_where test (string text) = string text
object_where test (array ds) = array ds
object_where test (object ms) = object (members_where test ms)

-- an object without its members of other names; any other value as it is
unfoldable pub only : List (List ℕ) → Data → Data
only names d = object_where (is_among names) d

-- an object without its members of these names; any other value as it is
unfoldable pub without : List (List ℕ) → Data → Data
without names d = object_where (λ name. not (is_among names name)) d

-- the same of a document that is read, and the error where there is none
abbrev pub only_of : List (List ℕ) → Result Data DocumentError → Result Data DocumentError
only_of names (Ok d) = Ok (only names d)
only_of names (Err e) = Err e

-- the names that a slice of texts has
abbrev pub names_of : List (Bor (List ℕ)) → List (List ℕ)
names_of = map (λ name. name.now)
