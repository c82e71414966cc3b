-- *Witness run*: what a list of updates makes of the logs that a witness keeps. `accepts` is what the checker accepts.
use Rattle.std.specs.Prelude.{◌≡◌, ◌⊎◌, ℕ, ◌<◌, Bool, List, [], ◌∷◌, ◌++◌, length, Some}
use Rattle.sig_base.specs.ByText.{text_lookup, text_put}
use Rattle.sig_base.specs.declared.scheme.VerifyScheme.{VerifyScheme}
use Rattle.sig_key.specs.Key.{key_accepts}
use Rattle.sig_rekor.specs.Refusals.{IsSigned}
use Rattle.sig_rekor.specs.declared.checkpoint.SignedCheckpoint.{SignedCheckpoint}
use Rattle.sig_audit.specs.Chained.{HasGrownFrom}
use Rattle.sig_audit.specs.Fronts.{IsLast}
use Rattle.sig_audit.specs.declared.chain.ChainHead.{ChainHead}
use Rattle.sig_witness.specs.declared.kept_log.KeptLog.{KeptLog}

-- the greatest number of heads that are kept of a log
abbrev pub most_heads : ℕ
most_heads = 4096

-- a new checkpoint, the size of the head that its proof is from, and the proof (RFC 6962 section 2.1.2)
pub record Update : Type 0 where
  pub checkpoint : SignedCheckpoint
  pub old_size : ℕ
  pub hashes : List (List ℕ)

abbrev pub update_of : SignedCheckpoint → ℕ → List (List ℕ) → Update
update_of checkpoint old_size hashes = record { checkpoint = checkpoint; old_size = old_size; hashes = hashes }

-- the origin that an update names
abbrev pub origin_of : Update → List ℕ
origin_of update = update.checkpoint.note.origin

-- the head of a checkpoint, with its proof
abbrev pub head_of : SignedCheckpoint → List (List ℕ) → ChainHead
head_of checkpoint hashes = record { size = checkpoint.note.size; hash = checkpoint.note.hash; hashes = hashes }

-- the head that an update is of
abbrev pub new_head : Update → ChainHead
new_head update = head_of update.checkpoint update.hashes

-- a log with one more head
abbrev pub grown_log : KeptLog → ChainHead → KeptLog
grown_log log head = record { key = log.key; chain = log.chain ++ head ∷ [] }

-- the five conditions under which an update is taken: this log is kept at its origin, the log signed it, the old size
-- is that of the kept head, the hashes show that the new tree grew from the kept head's, and there is room for one more
pub record IsTaken (accepts : VerifyScheme → List ℕ → List ℕ → List ℕ → Bool) (logs : List (List ℕ × KeptLog))
    (update : Update) (log : KeptLog) : Type 0 where
  pub kept : text_lookup (origin_of update) logs ≡ Some log
  pub signed : IsSigned (key_accepts accepts log.key) update.checkpoint
  pub last : ChainHead
  pub is_last : IsLast log.chain last
  pub old_size : last.size ≡ update.old_size
  pub grown : HasGrownFrom last (new_head update)
  pub room : length log.chain < most_heads

-- one step: the head is added to the chain of its origin if the update is taken, and all else stays; else nothing
-- changes
abbrev pub IsStep : (VerifyScheme → List ℕ → List ℕ → List ℕ → Bool) → List (List ℕ × KeptLog) → Update
    → List (List ℕ × KeptLog) → Type 0
IsStep accepts logs update after =
    ((log : KeptLog) × IsTaken accepts logs update log
    × (after ≡ text_put (origin_of update) (grown_log log (new_head update)) logs))
    ⊎ (((log : KeptLog) → ¬ IsTaken accepts logs update log) × (after ≡ logs))

-- *Witness run*: the steps of the updates in turn
abbrev pub IsRun : (VerifyScheme → List ℕ → List ℕ → List ℕ → Bool) → List (List ℕ × KeptLog) → List Update
    → List (List ℕ × KeptLog) → Type 0
IsRun accepts logs [] after = after ≡ logs
IsRun accepts logs (update ∷ later) after =
    (next : List (List ℕ × KeptLog)) × IsStep accepts logs update next × IsRun accepts next later after
