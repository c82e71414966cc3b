-- *Closed*: an object (RFC 8259 section 4) whose table admits the members of some names alone.
use Rattle.std.specs.Prelude.{ℕ, List, Bool, true, false, ◌&&◌, Option, Some, None}
use Rattle.serde_json.specs.Data.{Data, Members, no_members, member}
use Rattle.serde_json.specs.Find.{as_object}
use Rattle.sig_json.specs.Only.{is_among}

-- every member has one of these names
abbrev pub are_among : List (List ℕ) → Members → Bool
are_among names no_members = true
are_among names (member name d ms) = is_among names name && are_among names ms

-- they are the members of an object, and each has one of these names
abbrev pub are_those_among : List (List ℕ) → Option Members → Bool
are_those_among names None = false
are_those_among names (Some ms) = are_among names ms

-- the value is an object without members of other names than these
unfoldable pub has_only : List (List ℕ) → Data → Bool
has_only names d = are_those_among names (as_object d)
