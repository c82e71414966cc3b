-- The first failing link of a head, from what holds under its checkpoint.
use Rattle.std.proofs.Common.{◌≡◌, ◌⊎◌, ℕ, List, Option, Some, None, Result, Ok, Err, IfOk, inl, inr, refl, subst, sym}
use Rattle.sig_base.proofs.ResultSteps.{ok_is}
use Rattle.sig_base.specs.declared.memory.OutOfMemory.{OutOfMemory}
use Rattle.sig_base.specs.declared.fault.CheckpointFault.{CheckpointFault}
use Rattle.sig_rekor.specs.declared.checkpoint.SignedCheckpoint.{SignedCheckpoint}
use Rattle.sig_rekor.specs.declared.fault.ParseCheckpointError.{ParseCheckpointError}
use Rattle.sig_rekor.specs.declared.fault.ParseCheckpointError.TheVariants.{DecodeError, OutOfMemory as Memory}
use Rattle.sig_rekor.specs.CheckpointText.{IsCheckpoint}
use Rattle.sig_verify.specs.declared.link.Link.{Link}
use Rattle.sig_verify.specs.declared.link.Link.TheVariants.{Checkpoint, NoteKey, NoteMatch}
use Rattle.sig_request.specs.declared.head_members.ClaimedHead.{ClaimedHead}
use Rattle.sig_program.specs.Head.{IsHeadVerdict, IsHeadVerdictUnder, OfHeadCheckpoint, HasAcceptedSignature, IsMatched}

-- the text has no reading
pub unread-verdict : (head : ClaimedHead) (size : ℕ) (root : List ℕ)
    → ((checkpoint : SignedCheckpoint) → ¬ IsCheckpoint head.checkpoint checkpoint)
    → IsHeadVerdict head size root (Some Checkpoint)
unread-verdict head size root none = inl (λ holds. none holds.0 holds.1, refl)

-- what does not hold of the one reading holds of none
other-reading : (head : ClaimedHead) (checkpoint : SignedCheckpoint) (P : SignedCheckpoint → Type 0)
    → ((other : SignedCheckpoint) → IsCheckpoint head.checkpoint other → other ≡ checkpoint) → ¬ P checkpoint
    → ¬ OfHeadCheckpoint head P
other-reading head checkpoint P only fails holds = fails (subst P (only holds.0 holds.1) holds.2)

-- the verdict under the one reading is that of the head
pub under-verdict : (head : ClaimedHead) (size : ℕ) (root : List ℕ) (checkpoint : SignedCheckpoint)
    (verdict : Option Link)
    → IsCheckpoint head.checkpoint checkpoint
    → ((other : SignedCheckpoint) → IsCheckpoint head.checkpoint other → other ≡ checkpoint)
    → IsHeadVerdictUnder head size root checkpoint verdict → IsHeadVerdict head size root verdict
under-verdict head size root checkpoint None is only under =
    ((checkpoint, is, tt), ((checkpoint, is, under.0), ((checkpoint, is, under.1), tt)))
under-verdict head size root checkpoint (Some NoteKey) is only under =
    inr ((checkpoint, is, tt), inl (other-reading head checkpoint (HasAcceptedSignature head) only under, refl))
under-verdict head size root checkpoint (Some NoteMatch) is only under =
    inr (
      (checkpoint, is, tt),
      inr (
        (checkpoint, is, under.0),
        inl (other-reading head checkpoint (IsMatched size root) only under.1, refl),
      ),
    )
under-verdict head size root checkpoint (Some other) is only under = absurd under

-- a fault is neither out of memory nor a value
pub no_fault : (checkpoint : SignedCheckpoint) (fault : CheckpointFault)
    → (DecodeError fault ≡ Memory) ⊎ ◌≡◌ {A = Result SignedCheckpoint ParseCheckpointError} (Ok checkpoint)
    (Err (DecodeError fault)) → ⊥
no_fault checkpoint fault (inl e) = absurd cc
no_fault checkpoint fault (inr e) = absurd cc

-- the results of the reader: no reading, and one
pub refused-verdict : (head : ClaimedHead) (size : ℕ) (root : List ℕ) (text : List ℕ) (fault : CheckpointFault)
    → text ≡ head.checkpoint
    → ((other : SignedCheckpoint) → IsCheckpoint text other
    → (DecodeError fault ≡ Memory) ⊎ ◌≡◌ {A = Result SignedCheckpoint ParseCheckpointError} (Ok other)
    (Err (DecodeError fault)))
    → IsHeadVerdict head size root (Some Checkpoint)
refused-verdict head size root text fault same none =
    unread-verdict head size root (λ other is. no_fault other fault
    (none other (subst (λ t. IsCheckpoint t other) (sym same) is)))

pub read-verdict : (head : ClaimedHead) (size : ℕ) (root : List ℕ) (text : List ℕ)
    (checkpoint : SignedCheckpoint)
    (verdict : Result (Option Link) OutOfMemory) → text ≡ head.checkpoint
    → IsCheckpoint text checkpoint
    → ((other : SignedCheckpoint) → IsCheckpoint text other
    → ◌≡◌ {A = Result SignedCheckpoint ParseCheckpointError} (Ok other) (Ok checkpoint))
    → IfOk verdict (IsHeadVerdictUnder head size root checkpoint) → IfOk verdict (IsHeadVerdict head size root)
read-verdict head size root text checkpoint (Err memory) same is only under = tt
read-verdict head size root text checkpoint (Ok verdict) same is only under =
    under-verdict head size root checkpoint verdict (subst (λ t. IsCheckpoint t checkpoint) same is)
    (λ other other_is. ok_is other checkpoint
    (only other (subst (λ t. IsCheckpoint t other) (sym same) other_is))) under
