-- What the constraints of this program mean.
use Rattle.std.specs.Prelude.{ℕ, List, Bool, true, false, Option, Some, None}
use Rattle.std.specs.Str.{bytes_eq}
use Rattle.sig_cosign.specs.Layer.{Layer}
use Rattle.constraint_cases.specs.declared.own.Own.{Own}
use Rattle.constraint_cases.specs.declared.own.Own.TheVariants.{Always, Never, Fails, Signed}

abbrev pub is_signature : List ℕ → Option (List ℕ) → Bool
is_signature asked None = false
is_signature asked (Some text) = bytes_eq text asked

-- a layer with this signature
abbrev pub own_holds : Own → Layer → Bool
own_holds Always l = true
own_holds Never l = false
own_holds Fails l = false
own_holds (Signed text) l = is_signature text l.signature

abbrev pub unless_signed : List ℕ → Layer → Option (List ℕ) → Option Layer
unless_signed text l None = Some (record l { signature = Some text })
unless_signed text l (Some other) = None

-- the layer with this signature, if it has none
abbrev pub own_gives : Own → Layer → Option Layer
own_gives Always l = Some l
own_gives Never l = None
own_gives Fails l = None
own_gives (Signed text) l = unless_signed text l l.signature
