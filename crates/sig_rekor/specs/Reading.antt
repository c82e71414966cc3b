-- What a reader of the checkpoint format returns: the value, or the first rule that is broken.
use Rattle.std.specs.Prelude.{ℕ, Result, Ok, Err, List, [], ◌∷◌}
use Rattle.std.specs.Option.{ok_or}
use Rattle.sig_base.specs.ResultSteps.{◌>>=◌}
use Rattle.sig_base.specs.Base64.{base64_bytes}
use Rattle.sig_base.specs.declared.error.SigstoreError.{SigstoreError}
use Rattle.sig_base.specs.declared.error.SigstoreError.TheVariants as sigstore
use Rattle.sig_base.specs.declared.fault.CheckpointFault.{CheckpointFault}
use Rattle.sig_rekor.specs.declared.fault.ParseCheckpointError.{ParseCheckpointError}
use Rattle.sig_rekor.specs.declared.fault.ParseCheckpointError.TheVariants.{DecodeError, OutOfMemory}

-- each element of a list, read in order
abbrev pub read_each : {A B : Type 0} → (A → Result B CheckpointFault) → List A → Result (List B) CheckpointFault
read_each read [] = Ok []
read_each read (x ∷ xs) = do
  first ← read x
  others ← read_each read xs
  Ok (first ∷ others)

-- the bytes of a text in base64 (RFC 4648 section 4), or the fault
unfoldable pub base64_of : CheckpointFault → List ℕ → Result (List ℕ) CheckpointFault
base64_of fault text = ok_or (base64_bytes text) fault

-- a fault of the format as the readers' error
abbrev pub as_error : {Y : Type 0} → Result Y CheckpointFault → Result Y ParseCheckpointError
as_error (Ok y) = Ok y
as_error (Err fault) = Err (DecodeError fault)

-- the same error where a call has the crate's own
abbrev pub of_parsing : ParseCheckpointError → SigstoreError
of_parsing (DecodeError fault) = sigstore.ParseCheckpointError fault
of_parsing OutOfMemory = sigstore.OutOfMemory
