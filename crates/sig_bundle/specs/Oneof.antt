-- A oneof: members of an object of which at most one is there.
use Rattle.std.specs.Prelude.{List, [], ◌∷◌, Option, Some, None}
use Rattle.sig_base.specs.OptionSteps.{◌>>=◌}

-- a member that is there, combined with what the others of its oneof are
abbrev pub alone : {A : Type 0} → A → Option A → Option (Option A)
alone x None = Some (Some x)
alone x (Some y) = None

-- the one member that is there, or that none is; nothing if two are there
abbrev pub oneof : {A : Type 0} → List (Option A) → Option (Option A)
oneof [] = Some None
oneof (None ∷ members) = oneof members
oneof (Some x ∷ members) = oneof members >>= alone x
