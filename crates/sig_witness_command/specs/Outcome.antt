-- What becomes of an update, and its line.
use Rattle.std.specs.Prelude.{◌≡◌, ℕ, Bool, true, false, List, [], ◌∷◌, ◌++◌, codes, decimal, Option, Some, None}
use Rattle.sig_base.specs.declared.merkle_error.MerkleProofError.{MerkleProofError}
use Rattle.sig_base.specs.declared.scheme.VerifyScheme.{VerifyScheme}
use Rattle.sig_rekor.specs.CheckpointText.{IsCheckpoint}
use Rattle.sig_rekor.specs.declared.checkpoint.SignedCheckpoint.{SignedCheckpoint}
use Rattle.sig_witness.specs.Causes.{IsUpdateFault}
use Rattle.sig_witness.specs.Updates.{IsTaken, Update}
use Rattle.sig_witness.specs.declared.error.WitnessError.{WitnessError}
use Rattle.sig_witness.specs.declared.error.WitnessError.TheVariants as fault
use Rattle.sig_witness.specs.declared.kept_log.KeptLog.{KeptLog}
use Rattle.sig_witness_command.specs.Start.{Logs}
use Rattle.sig_witness_command.specs.declared.outcome.Outcome.{Outcome}
use Rattle.sig_witness_command.specs.declared.outcome.Outcome.TheVariants.{Accepted, Checkpoint, Origin, NoteKey, OldSize, Consistency, Full}
use Rattle.sig_witness_command.specs.declared.request.UpdateText.{UpdateText}

-- the text of the update is a checkpoint
abbrev pub HasReading : UpdateText → Type 0
HasReading text = (checkpoint : SignedCheckpoint) × IsCheckpoint text.checkpoint checkpoint

-- the update is this one: its text is the checkpoint, and it has the same old size and hashes
pub record IsUpdate (text : UpdateText) (update : Update) : Type 0 where
  pub read : IsCheckpoint text.checkpoint update.checkpoint
  pub old_size : update.old_size ≡ text.old_size
  pub hashes : update.hashes ≡ text.hashes

module _ (accepts : VerifyScheme → List ℕ → List ℕ → List ℕ → Bool) (logs : Logs) (text : UpdateText) where
  -- the update is taken, and the new head has this size
  pub record IsAccepted (size : ℕ) : Type 0 where
    pub update : Update
    pub is : IsUpdate text update
    pub log : KeptLog
    pub taken : IsTaken accepts logs update log
    pub size_is : size ≡ update.checkpoint.note.size

  -- the update fails with this error, the first that applies
  pub record IsRefused (e : WitnessError) : Type 0 where
    pub update : Update
    pub is : IsUpdate text update
    pub fault : IsUpdateFault accepts logs update e

  -- the outcome of an update of these logs
  abbrev pub IsOutcome : Outcome → Type 0
  IsOutcome (Accepted size) = IsAccepted size
  IsOutcome Checkpoint = ¬ HasReading text
  IsOutcome Origin = IsRefused fault.UnknownOrigin
  IsOutcome NoteKey = IsRefused fault.NoteKey
  IsOutcome (OldSize kept) = IsRefused (fault.OldSize kept)
  IsOutcome Consistency = (cause : MerkleProofError) × IsRefused (fault.Consistency cause)
  IsOutcome Full = IsRefused fault.Full

-- the line of an update
abbrev pub outcome_line : Outcome → List ℕ
outcome_line (Accepted size) = codes "accepted " ++ (decimal size ++ codes "\n")
outcome_line Checkpoint = codes "refused checkpoint\n"
outcome_line Origin = codes "refused origin\n"
outcome_line NoteKey = codes "refused note-key\n"
outcome_line (OldSize kept) = codes "refused old-size " ++ (decimal kept ++ codes "\n")
outcome_line Consistency = codes "refused consistency\n"
outcome_line Full = codes "refused full\n"

-- the lines of all updates, in order
abbrev pub outcome_lines : List Outcome → List ℕ
outcome_lines [] = []
outcome_lines (outcome ∷ later) = outcome_line outcome ++ outcome_lines later

-- the update is taken
abbrev pub is_accepted : Outcome → Bool
is_accepted (Accepted size) = true
is_accepted other = false

-- for private clauses: what an error of an update makes of it
abbrev pub error_outcome : WitnessError → Option Outcome
error_outcome fault.UnknownOrigin = Some Origin
error_outcome fault.NoteKey = Some NoteKey
error_outcome (fault.OldSize kept) = Some (OldSize kept)
error_outcome (fault.Consistency cause) = Some Consistency
error_outcome fault.Full = Some Full
error_outcome other = None

-- for private clauses: the error is one of an update
abbrev pub IsUpdateError : WitnessError → Type 0
IsUpdateError fault.OriginText = ⊥
IsUpdateError fault.OriginKnown = ⊥
IsUpdateError other = Unit {0}
