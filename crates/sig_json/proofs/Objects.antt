-- Objects, as a document holds them.
use Rattle.std.proofs.Common.{◌≡◌, ℕ, List, refl}
use Rattle.std.specs.Prelude.{IsSome}
use Rattle.sig_json.proofs.StableKinds.{is_object-with_member}
use Rattle.serde_json.specs.Data.{Data, null, boolean, number, string, array, object, put}
use Rattle.serde_json.specs.Find.{as_object}
use Rattle.sig_json.specs.Writing.{members_in}
use Rattle.sig_json.specs.Builders.{with_member}

pub object-members_in : (d : Data) → IsSome (as_object d) → d ≡ object (members_in d)
object-members_in null h = absurd cc
object-members_in (boolean b) h = absurd cc
object-members_in (number n) h = absurd cc
object-members_in (string s) h = absurd cc
object-members_in (array ds) h = absurd cc
object-members_in (object ms) h = refl

pub members_in-with_member : (name : List ℕ) (value d : Data) → IsSome (as_object d)
    → members_in (with_member name value d) ≡ put name value (members_in d)
members_in-with_member name value null h = absurd cc
members_in-with_member name value (boolean b) h = absurd cc
members_in-with_member name value (number n) h = absurd cc
members_in-with_member name value (string s) h = absurd cc
members_in-with_member name value (array ds) h = absurd cc
members_in-with_member name value (object ms) h = refl

pub ruleset objects = (object-members_in, members_in-with_member, is_object-with_member)
