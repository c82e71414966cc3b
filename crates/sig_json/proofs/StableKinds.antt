-- A tree stays an object where a member is set, and a list where an element is added.
use Rattle.std.proofs.Common.{ℕ, List}
use Rattle.std.specs.Prelude.{IsSome}
use Rattle.sig_json.specs.Builders.{with_last, with_member}
use Rattle.sig_json.specs.Data.{Data, null, boolean, number, string, array, object}
use Rattle.sig_json.specs.Find.{as_array, as_object}

pub is_object-with_member : (name : List ℕ) (value d : Data) → IsSome (as_object d)
    → IsSome (as_object (with_member name value d))
is_object-with_member name value null h = h
is_object-with_member name value (boolean b) h = h
is_object-with_member name value (number n) h = h
is_object-with_member name value (string s) h = h
is_object-with_member name value (array ds) h = h
is_object-with_member name value (object ms) h = h

pub is_list-with_last : (value d : Data) → IsSome (as_array d) → IsSome (as_array (with_last value d))
is_list-with_last value null h = h
is_list-with_last value (boolean b) h = h
is_list-with_last value (number n) h = h
is_list-with_last value (string s) h = h
is_list-with_last value (array ds) h = h
is_list-with_last value (object ms) h = h

pub ruleset staying = (is_object-with_member, is_list-with_last)
