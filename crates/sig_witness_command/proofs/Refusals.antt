-- What an error of an update makes of it.
use Rattle.std.proofs.Common.{◌≡◌, ◌⊎◌, ℕ, Bool, List, inl, inr, Option, Some, None, Result, Ok, Err, IfOk, subst, sym}
use Rattle.std.proofs.lemmas.Result.{IfOk-weaker}
use Rattle.sig_base.proofs.OptionSteps.{some_is}
use Rattle.sig_base.specs.declared.memory.OutOfMemory.{OutOfMemory as memory_type}
use Rattle.sig_base.specs.declared.scheme.VerifyScheme.{VerifyScheme}
use Rattle.sig_base.specs.declared.fault.CheckpointFault.{CheckpointFault}
use Rattle.sig_rekor.specs.CheckpointText.{IsCheckpoint}
use Rattle.sig_rekor.specs.declared.checkpoint.SignedCheckpoint.{SignedCheckpoint}
use Rattle.sig_rekor.specs.declared.fault.ParseCheckpointError.{ParseCheckpointError}
use Rattle.sig_rekor.specs.declared.fault.ParseCheckpointError.TheVariants.{DecodeError, OutOfMemory as Memory}
use Rattle.sig_witness.specs.Causes.{IsUpdateFault}
use Rattle.sig_witness.specs.Updates.{IsStep, Update}
use Rattle.sig_witness.specs.declared.error.WitnessError.{WitnessError}
use Rattle.sig_witness.specs.declared.error.WitnessError.TheVariants as fault
use Rattle.sig_witness_command.specs.Outcome.{HasReading, IsOutcome, IsUpdate, error_outcome}
use Rattle.sig_witness_command.specs.Start.{Logs}
use Rattle.sig_witness_command.specs.Walk.{IsUpdated}
use Rattle.sig_witness_command.specs.declared.outcome.Outcome.{Outcome}
use Rattle.sig_witness_command.specs.declared.outcome.Outcome.TheVariants.{Origin, NoteKey, OldSize, Consistency, Full}
use Rattle.sig_witness_command.specs.declared.request.UpdateText.{UpdateText}

none-some : (o : Outcome) → ◌≡◌ {A = Option Outcome} None (Some o) → ⊥
none-some o is = cc

module _ (accepts : VerifyScheme → List ℕ → List ℕ → List ℕ → Bool) (logs : Logs) (text : UpdateText) (update : Update)
    (read : IsUpdate text update) where
  outcome-of : (e : WitnessError) (o : Outcome) → error_outcome e ≡ Some o → IsUpdateFault accepts logs update e
      → IsOutcome accepts logs text o
  outcome-of fault.UnknownOrigin o is fails =
      subst (IsOutcome accepts logs text) (some_is Origin o is) (record { update = update; is = read; fault = fails })
  outcome-of fault.NoteKey o is fails =
      subst (IsOutcome accepts logs text) (some_is NoteKey o is) (record { update = update; is = read; fault = fails })
  outcome-of (fault.OldSize kept) o is fails =
      subst (IsOutcome accepts logs text) (some_is (OldSize kept) o is)
      (record { update = update; is = read; fault = fails })
  outcome-of (fault.Consistency cause) o is fails =
      subst (IsOutcome accepts logs text) (some_is Consistency o is)
      (cause, record { update = update; is = read; fault = fails })
  outcome-of fault.Full o is fails =
      subst (IsOutcome accepts logs text) (some_is Full o is) (record { update = update; is = read; fault = fails })
  outcome-of fault.OriginText o is fails = absurd (none-some o is)
  outcome-of fault.OriginKnown o is fails = absurd (none-some o is)
  outcome-of fault.OutOfMemory o is fails = absurd (none-some o is)

  memory-apart : (e : WitnessError) (o : Outcome) → e ≡ fault.OutOfMemory → error_outcome e ≡ Some o → ⊥
  memory-apart e o same is = none-some o (subst (λ (f : WitnessError). error_outcome f ≡ Some o) same is)

  one-error : (e : WitnessError)
      → ◌≡◌ {A = Result (Unit {0}) WitnessError} (Err e) (Err fault.OutOfMemory) → e ≡ fault.OutOfMemory
  one-error e is = cc

  updated : (e : WitnessError) (after : Logs) (o : Outcome)
      → (◌≡◌ {A = Result (Unit {0}) WitnessError} (Err e) (Err fault.OutOfMemory)) ⊎ IsUpdateFault accepts logs update e
      → (◌≡◌ {A = Result (Unit {0}) WitnessError} (Err e) (Err fault.OutOfMemory)) ⊎ IsStep accepts logs update after
      → error_outcome e ≡ Some o → IsUpdated accepts logs text o after
  updated e after o (inl memory) step is = absurd (memory-apart e o (one-error e memory) is)
  updated e after o (inr fails) (inl memory) is = absurd (memory-apart e o (one-error e memory) is)
  updated e after o (inr fails) (inr step) is = (outcome-of e o is fails, inr (update, read, step))

  pub refused-update : (e : WitnessError) (after : Logs) (r : Result Outcome memory_type)
      → (◌≡◌ {A = Result (Unit {0}) WitnessError} (Err e) (Err fault.OutOfMemory)) ⊎ IsUpdateFault accepts logs update e
      → (◌≡◌ {A = Result (Unit {0}) WitnessError} (Err e) (Err fault.OutOfMemory)) ⊎ IsStep accepts logs update after
      → IfOk r (λ o. error_outcome e ≡ Some o) → IfOk r (λ o. IsUpdated accepts logs text o after)
  refused-update e after r found step =
      IfOk-weaker r (λ o. error_outcome e ≡ Some o) (λ o. IsUpdated accepts logs text o after)
      (λ o. updated e after o found step)

-- ---- a text that is not a checkpoint

pub unread : (update : UpdateText) (text : List ℕ) (cause : CheckpointFault) → text ≡ update.checkpoint
    → ((other : SignedCheckpoint) → IsCheckpoint text other
    → (DecodeError cause ≡ Memory) ⊎ ◌≡◌ {A = Result SignedCheckpoint ParseCheckpointError} (Ok other)
    (Err (DecodeError cause)))
    → ¬ HasReading update
unread update text cause same none has =
    elim (none has.0 (subst (λ t. IsCheckpoint t has.0) (sym same) has.1)) [
      | inl e ↦ absurd cc
      | inr e ↦ absurd cc
    ]
