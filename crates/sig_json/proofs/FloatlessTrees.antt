-- What a tree without floats holds has none either.
use Rattle.std.proofs.Common.{◌≡◌, ◌↔◌, ℕ, zero, suc, List, Option, Some, false}
use Rattle.std.specs.Option.{IsSome, option_and_then}
use Rattle.std.proofs.lemmas.Bool.{or_parts}
use Rattle.std.specs.Ordering.{nat_cmp}
use Rattle.std.specs.Cmp.Lexicographic.{slice_cmp}
use Rattle.serde_json.specs.Data.{unsigned, negative, float, Data, null, boolean, number, string, array, object, Items}
use Rattle.serde_json.specs.Data.{no_items, item, Members, no_members, member}
use Rattle.serde_json.specs.Find.{get, at, get_member, get_item, as_object, as_number, as_integer}
use Rattle.serde_json.specs.Written.{has_float, items_have_float, members_have_float}
use Rattle.sig_json.proofs.ValueKinds.{as_object_is}
use Rattle.sig_json.proofs.OrderingChoices.{holds_of_choice}

-- where the value is there, it has no float
abbrev pub FoundFloatless : Option Data → Type 0
FoundFloatless found = (d : Data) → found ≡ Some d → has_float d ≡ false

pub get_member_floatless : (name : List ℕ) (ms : Members) → members_have_float ms ≡ false
    → FoundFloatless (get_member name ms)
get_member_floatless name no_members none = λ d e. cc
get_member_floatless name (member k v ms) none =
    let parts = or_parts (has_float v) (members_have_float ms) none in
    let rest = get_member_floatless name ms parts.1 in
    holds_of_choice FoundFloatless (slice_cmp nat_cmp name k) (get_member name ms) (Some v) (get_member name ms) rest
    (λ d e. let same : v ≡ d = cc in rw (← same) parts.0) rest

get_item_floatless : (place : ℕ) (ds : Items) → items_have_float ds ≡ false → FoundFloatless (get_item place ds)
get_item_floatless place no_items none = λ d e. cc
get_item_floatless zero (item v ds) none =
    λ d e. let same : v ≡ d = cc in rw (← same) (or_parts (has_float v) (items_have_float ds) none).0
get_item_floatless (suc place) (item v ds) none =
    get_item_floatless place ds (or_parts (has_float v) (items_have_float ds) none).1

pub get_floatless : (name : List ℕ) (d found : Data) → has_float d ≡ false → Some found ≡ get name d
    → has_float found ≡ false
get_floatless name null found none e = cc
get_floatless name (boolean b) found none e = cc
get_floatless name (number n) found none e = cc
get_floatless name (string s) found none e = cc
get_floatless name (array ds) found none e = cc
get_floatless name (object ms) found none e = get_member_floatless name ms none found (cc)

pub at_floatless : (place : ℕ) (d found : Data) → has_float d ≡ false → Some found ≡ at place d
    → has_float found ≡ false
at_floatless place null found none e = cc
at_floatless place (boolean b) found none e = cc
at_floatless place (number n) found none e = cc
at_floatless place (string s) found none e = cc
at_floatless place (array ds) found none e = get_item_floatless place ds none found (cc)
at_floatless place (object ms) found none e = cc

-- the members of an object without floats
pub as_object_floatless : (d : Data) (ms : Members) → has_float d ≡ false → Some ms ≡ as_object d
    → members_have_float ms ≡ false
as_object_floatless d ms none e = rw (as_object_is d ms e) at none

-- a walk's next member, and what is left of it
pub next_floatless : (d : Data) (ms : Members) (name : List ℕ) → members_have_float (member name d ms) ≡ false
    → (has_float d ≡ false) × (members_have_float ms ≡ false)
next_floatless d ms name none = or_parts (has_float d) (members_have_float ms) none

-- a number that is not a float is an integer
pub integer_floatless : (d : Data) → has_float d ≡ false
    → IsSome (option_and_then as_integer (as_number d)) ↔ IsSome (as_number d)
integer_floatless null none = ((λ is. is), (λ is. is))
integer_floatless (boolean b) none = ((λ is. is), (λ is. is))
integer_floatless (number (unsigned n)) none = ((λ is. is), (λ is. is))
integer_floatless (number (negative z)) none = ((λ is. is), (λ is. is))
integer_floatless (number (float x)) none = absurd cc
integer_floatless (string s) none = ((λ is. is), (λ is. is))
integer_floatless (array ds) none = ((λ is. is), (λ is. is))
integer_floatless (object ms) none = ((λ is. is), (λ is. is))

pub ruleset floatless = (get_floatless, at_floatless, as_object_floatless, next_floatless, integer_floatless)
