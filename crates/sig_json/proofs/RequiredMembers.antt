-- A required member of a kind is the value that is there, under the kind.
use Rattle.std.proofs.Common.{◌≡◌, ℕ, List, Option, Some, None, refl}
use Rattle.serde_json.specs.Data.{Data}
use Rattle.sig_base.specs.OptionSteps.{◌>>=◌}
use Rattle.sig_json.specs.Member.{member_of, required, there_or}

there_under : {A : Type 0} (kind : Data → Option A) (found : Option (Option Data))
    → (found >>= there_or None kind) ≡ ((found >>= there_or None Some) >>= kind)
there_under kind None = refl
there_under kind (Some None) = refl
there_under kind (Some (Some d)) = refl

under_kind : {A : Type 0} (kind : Data → Option A) (name : List ℕ) (d : Data)
    → required kind name d ≡ (required Some name d >>= kind)
unfolding required
under_kind kind name d = there_under kind (member_of name d)

pub required_there : {A : Type 0} (kind : Data → Option A) (name : List ℕ) (d value : Data)
    → required Some name d ≡ Some value → required kind name d ≡ kind value
required_there kind name d value there = rw (under_kind kind name d, there) refl

pub required_absent : {A : Type 0} (kind : Data → Option A) (name : List ℕ) (d : Data)
    → required Some name d ≡ None → required kind name d ≡ None
required_absent kind name d absent = rw (under_kind kind name d, absent) refl

pub ruleset required_members = (required_there, required_absent)
