-- *Causes of a witness's errors*: each by the first condition that does not hold.
use Rattle.std.specs.Prelude.{◌≡◌, ◌≢◌, ◌⊎◌, ℕ, Bool, List, length, Some, None, Result, Ok, Err}
use Rattle.sig_base.specs.ByText.{text_lookup}
use Rattle.sig_base.specs.declared.merkle_error.MerkleProofError.{MerkleProofError}
use Rattle.sig_base.specs.declared.scheme.VerifyScheme.{VerifyScheme}
use Rattle.sig_key.specs.Key.{key_accepts}
use Rattle.sig_merkle.specs.ConsistencyAnswer.{IsConsistencyAnswer}
use Rattle.sig_rekor.specs.Refusals.{IsSigned}
use Rattle.sig_audit.specs.Chained.{HasGrownFrom}
use Rattle.sig_audit.specs.Fronts.{IsLast}
use Rattle.sig_audit.specs.declared.chain.ChainHead.{ChainHead}
use Rattle.sig_witness.specs.declared.error.WitnessError.{WitnessError}
use Rattle.sig_witness.specs.declared.error.WitnessError.TheVariants.{OriginText, OriginKnown, UnknownOrigin, NoteKey}
use Rattle.sig_witness.specs.declared.error.WitnessError.TheVariants.{OldSize, Consistency, Full}
use Rattle.sig_witness.specs.declared.kept_log.KeptLog.{KeptLog}
use Rattle.sig_witness.specs.KeptLogs.{IsOriginText}
use Rattle.sig_witness.specs.Updates.{Update, origin_of, new_head, most_heads, IsTaken}

-- the consistency proof of an update from the kept head fails with this error
abbrev pub IsUngrown : ChainHead → Update → MerkleProofError → Type 0
IsUngrown last update cause =
    IsConsistencyAnswer last.size update.checkpoint.note.size update.hashes last.hash update.checkpoint.note.hash (Err cause)

-- an update from the kept head of a chain of this length fails: the old size is another; else its proof does not lead
-- from that head; else the chain is full
abbrev pub IsHeadFault : ℕ → ChainHead → Update → WitnessError → Type 0
IsHeadFault heads last update e =
    ((last.size ≢ update.old_size) × (e ≡ OldSize last.size))
    ⊎ ((last.size ≡ update.old_size) × ((cause : MerkleProofError) × IsUngrown last update cause × (e ≡ Consistency cause)))
    ⊎ ((last.size ≡ update.old_size) × HasGrownFrom last (new_head update) × (heads ≡ most_heads) × (e ≡ Full))

-- an update of a log fails: no signature is the log's; else the fault is by its kept head
abbrev pub IsLogFault : (List ℕ → List ℕ → Bool) → KeptLog → Update → WitnessError → Type 0
IsLogFault accepts log update e =
    (¬ IsSigned accepts update.checkpoint × (e ≡ NoteKey))
    ⊎ (IsSigned accepts update.checkpoint
    × ((last : ChainHead) × IsLast log.chain last × IsHeadFault (length log.chain) last update e))

-- *Fault of an update*: its origin is not there; or it is the fault by the log of its origin
abbrev pub IsUpdateFault : (VerifyScheme → List ℕ → List ℕ → List ℕ → Bool) → List (List ℕ × KeptLog) → Update
    → WitnessError → Type 0
IsUpdateFault accepts logs update e =
    ((text_lookup (origin_of update) logs ≡ None) × (e ≡ UnknownOrigin))
    ⊎ ((log : KeptLog) × (text_lookup (origin_of update) logs ≡ Some log)
    × IsLogFault (key_accepts accepts log.key) log update e)

-- the result of an update: it is taken, or its first fault
abbrev pub IsUpdateAnswer : (VerifyScheme → List ℕ → List ℕ → List ℕ → Bool) → List (List ℕ × KeptLog) → Update
    → Result (Unit {0}) WitnessError → Type 0
IsUpdateAnswer accepts logs update (Ok _) = (log : KeptLog) × IsTaken accepts logs update log
IsUpdateAnswer accepts logs update (Err e) = IsUpdateFault accepts logs update e

-- the result of adding an origin: the origin is a line that is not there; or it is not a line; or it is there already
abbrev pub IsAddAnswer : List (List ℕ × KeptLog) → List ℕ → Result (Unit {0}) WitnessError → Type 0
IsAddAnswer logs origin (Ok _) = IsOriginText origin × (text_lookup origin logs ≡ None)
IsAddAnswer logs origin (Err e) =
    (¬ IsOriginText origin × (e ≡ OriginText))
    ⊎ (IsOriginText origin × ((log : KeptLog) × (text_lookup origin logs ≡ Some log)) × (e ≡ OriginKnown))
