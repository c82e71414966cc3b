-- What a text was read as, from the answer of its reader.
use Rattle.std.proofs.Common.{◌≡◌, Result, Ok, Err, inl, inr, ap, sym}
use Rattle.sig_base.specs.Answers.{OrMemory}
use Rattle.sig_base.specs.declared.fault.CheckpointFault.{CheckpointFault}
use Rattle.sig_rekor.proofs.Steps.{reads-value}
use Rattle.sig_rekor.specs.Reading.{as_error}
use Rattle.sig_rekor.specs.declared.fault.ParseCheckpointError.{ParseCheckpointError}
use Rattle.sig_rekor.specs.declared.fault.ParseCheckpointError.TheVariants.{DecodeError, OutOfMemory}

-- a checkpoint
pub read_as : {Y : Type 0} (y : Y) (read : Result Y CheckpointFault) → as_error read ≡ Ok y → Ok y ≡ read
read_as y read is = sym (reads-value y read is)

-- a rule that is broken
fault_is : {Y : Type 0} (fault : CheckpointFault) (read : Result Y CheckpointFault)
    → as_error read ≡ Err (DecodeError fault) → Err fault ≡ read
fault_is fault (Ok x) is = absurd cc
fault_is fault (Err other) is = let same : other ≡ fault = cc in ap Err (sym same)

pub read_fault : {Y : Type 0} (fault : CheckpointFault) (read : Result Y CheckpointFault)
    → OrMemory OutOfMemory (DecodeError fault) (as_error read ≡ Err (DecodeError fault)) → Err fault ≡ read
read_fault fault read (inl memory) = absurd cc
read_fault fault read (inr is) = fault_is fault read is

pub ruleset readings = (read_as, read_fault)
