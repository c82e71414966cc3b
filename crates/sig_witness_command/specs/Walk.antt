-- What a request's updates make of the logs, in order.
use Rattle.std.specs.Prelude.{◌≡◌, ◌⊎◌, ℕ, Bool, List, [], ◌∷◌}
use Rattle.sig_base.specs.Checker.{accepted}
use Rattle.sig_base.specs.Scheme.{name_of}
use Rattle.sig_base.specs.declared.checker.AcceptedRow.{AcceptedRow}
use Rattle.sig_base.specs.declared.checker.Operation.TheVariants.{Message}
use Rattle.sig_base.specs.declared.scheme.VerifyScheme.{VerifyScheme}
use Rattle.sig_witness.specs.Updates.{IsStep, Update}
use Rattle.sig_witness_command.specs.Outcome.{HasReading, IsOutcome, IsUpdate}
use Rattle.sig_witness_command.specs.Start.{Logs}
use Rattle.sig_witness_command.specs.declared.outcome.Outcome.{Outcome}
use Rattle.sig_witness_command.specs.declared.request.UpdateText.{UpdateText}

-- what a table accepts as genuine: schemes, keys, messages and signatures
abbrev pub takes : List AcceptedRow → VerifyScheme → List ℕ → List ℕ → List ℕ → Bool
takes rows scheme key message signature = accepted rows Message (name_of scheme) key message signature

-- the updates whose texts are checkpoints, in order; the others are left out
abbrev pub AreUpdates : List UpdateText → List Update → Type 0
AreUpdates [] updates = updates ≡ []
AreUpdates (text ∷ later) updates =
    ((¬ HasReading text) × AreUpdates later updates)
    ⊎ ((update : Update) × IsUpdate text update
    × ((others : List Update) × (updates ≡ update ∷ others) × AreUpdates later others))

module _ (accepts : VerifyScheme → List ℕ → List ℕ → List ℕ → Bool) where
  -- one text changes the logs: as *Witness run*'s step if it is a checkpoint, else not at all
  abbrev pub IsTextStep : Logs → UpdateText → Logs → Type 0
  IsTextStep logs text after =
      ((¬ HasReading text) × (after ≡ logs)) ⊎ ((update : Update) × IsUpdate text update × IsStep accepts logs update after)

  -- an update's outcome, and the logs afterwards
  abbrev pub IsUpdated : Logs → UpdateText → Outcome → Logs → Type 0
  IsUpdated logs text outcome after = IsOutcome accepts logs text outcome × IsTextStep logs text after

  -- the outcome of each update of the logs that those before it left, and the logs after the last
  abbrev pub IsWalk : Logs → List UpdateText → List Outcome → Logs → Type 0
  IsWalk logs [] outcomes after = (outcomes ≡ []) × (after ≡ logs)
  IsWalk logs (text ∷ later) outcomes after =
      (outcome : Outcome) × (next : Logs) × (others : List Outcome) × (outcomes ≡ outcome ∷ others)
      × IsUpdated logs text outcome next × IsWalk next later others after
