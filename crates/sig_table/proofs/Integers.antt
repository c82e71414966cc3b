-- A member of an object that is an integer is read as its value is.
use Rattle.std.proofs.Common.{◌≡◌, ℕ, List, Option, Some, refl}
use Rattle.sig_json.specs.Data.{Data, null, boolean, number, string, array, object}
use Rattle.sig_json.specs.Kinds.{i64_of, u64_of}
use Rattle.sig_json.specs.Member.{member_of, optional_or, optional_i64, optional_u64}
use Rattle.sig_table.specs.Table.{member_in}

there : {A : Type 0} → (absent : A) (kind : Data → Option A) (name : List ℕ) (d value : Data)
    → member_in name d ≡ Some value → optional_or absent kind name d ≡ kind value
unfolding optional_or member_of
there absent kind name null value is = cc
there absent kind name (boolean b) value is = cc
there absent kind name (number n) value is = cc
there absent kind name (string s) value is = cc
there absent kind name (array ds) value is = cc
there absent kind name (object ms) value is = rw is refl

-- of a member that is there
pub i64_there : (name : List ℕ) (d value : Data) → member_in name d ≡ Some value → optional_i64 name d ≡ i64_of value
i64_there = there _ i64_of

pub u64_there : (name : List ℕ) (d value : Data) → member_in name d ≡ Some value → optional_u64 name d ≡ u64_of value
u64_there = there _ u64_of

pub ruleset integers = (i64_there, u64_there)
