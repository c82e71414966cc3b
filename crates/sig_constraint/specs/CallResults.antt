-- What the calls of a constraint return.
use Rattle.std.specs.Prelude.{◌≡◌, Bool, true, false, Option, Some, None, Result, Ok, Err}
use Rattle.sig_base.specs.Answers.{OrMemory}
use Rattle.sig_cosign.specs.Layer.{Layer, seen_layer}
use Rattle.sig_base.specs.declared.error.SigstoreError.{SigstoreError}
use Rattle.sig_base.specs.declared.error.SigstoreError.TheVariants.{OutOfMemory}
use Rattle.sig_cosign.specs.declared.signature_layer.SignatureLayer.{SignatureLayer}

-- whether the predicate holds of the layer; an error, but out of memory, comes only if it does not
abbrev pub IsVerdict : Bool → Result Bool SigstoreError → Type 0
IsVerdict holds (Ok b) = b ≡ holds
IsVerdict holds (Err e) = OrMemory OutOfMemory e (holds ≡ false)

-- the layer is as it was
abbrev pub IsUnchanged : SignatureLayer → SignatureLayer → Type 0
IsUnchanged old new = seen_layer new ≡ seen_layer old

-- The layer that the constraint gives, if it applies; if not, the layer is unchanged. An error leaves the layer
-- unchanged too, and except for out of memory comes only if the constraint does not apply.
abbrev pub IsApplied : Option Layer → SignatureLayer → SignatureLayer → Result Bool SigstoreError → Type 0
IsApplied given old new (Ok true) = given ≡ Some (seen_layer new)
IsApplied given old new (Ok false) = (given ≡ None) × IsUnchanged old new
IsApplied given old new (Err e) = OrMemory OutOfMemory e (given ≡ None) × IsUnchanged old new
