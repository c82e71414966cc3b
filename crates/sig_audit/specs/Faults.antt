-- *Causes of an audit's errors*: each by the first part of *Audited log* that does not hold, of the heads in order and
-- then of the watches in order. `accepts` is what the checker accepts under the log's key.
use Rattle.std.specs.Prelude.{◌≡◌, ◌⊎◌, ℕ, ◌≤◌, Bool, List, [], ◌∷◌, ◌++◌, length, slice_get, Some, Result, Ok, Err}
use Rattle.std.specs.List.{AllByRecursion}
use Rattle.sig_base.specs.declared.merkle_error.MerkleProofError.{MerkleProofError}
use Rattle.sig_merkle.specs.ConsistencyAnswer.{IsConsistencyAnswer}
use Rattle.sig_merkle.specs.Inclusion.{IsInclusionAnswer}
use Rattle.sig_merkle.specs.Root.{leaf_of}
use Rattle.sig_audit.specs.declared.chain.ChainHead.{ChainHead}
use Rattle.sig_audit.specs.declared.error.AuditError.{AuditError}
use Rattle.sig_audit.specs.declared.error.AuditError.TheVariants.{Empty, NoteKey, Origin, Consistency, Head, Inclusion}
use Rattle.sig_audit.specs.declared.heads.AuditHead.{AuditHead}
use Rattle.sig_audit.specs.declared.heads.Watch.{Watch}
use Rattle.sig_audit.specs.Audited.{chain_head, chain_of, IsHeadSigned, HasOriginOf, AreAudited, IsWatched, IsAudited}
use Rattle.sig_audit.specs.Chained.{HaveGrown}
use Rattle.sig_audit.specs.Fronts.{IsLast}

-- ---- a head

-- the consistency proof of a head from the one before it fails with this error
abbrev pub IsUngrown : ChainHead → ChainHead → MerkleProofError → Type 0
IsUngrown before head e = IsConsistencyAnswer before.size head.size head.hashes before.hash head.hash (Err e)

-- a head after these: no signature is accepted; else its origin is not the first head's; else its tree is not shown to
-- have that of the head before it as its first leaves
abbrev pub IsHeadFault : (List ℕ → List ℕ → Bool) → AuditHead → List AuditHead → AuditHead → AuditError → Type 0
IsHeadFault accepts first before head e =
    (¬ IsHeadSigned accepts head × (e ≡ NoteKey (length before)))
    ⊎ (IsHeadSigned accepts head × ¬ HasOriginOf first head × (e ≡ Origin (length before)))
    ⊎ (IsHeadSigned accepts head × HasOriginOf first head
    × ((older : AuditHead) × IsLast before older
    × ((cause : MerkleProofError) × IsUngrown (chain_head older) (chain_head head) cause
    × (e ≡ Consistency (length before) cause))))

-- the first head with a fault; its index is the number of heads before it
pub record IsHeadsFault (accepts : List ℕ → List ℕ → Bool) (heads : List AuditHead) (e : AuditError) : Type 0 where
  pub first : AuditHead
  pub before : List AuditHead
  pub head : AuditHead
  pub after : List AuditHead
  pub begins : slice_get heads 0 ≡ Some first
  pub split : heads ≡ before ++ head ∷ after
  pub signed : AllByRecursion (IsHeadSigned accepts) before
  pub origins : AllByRecursion (HasOriginOf first) before
  pub grown : HaveGrown (chain_of before)
  pub fault : IsHeadFault accepts first before head e

-- ---- a watch

-- the audit path of a watch under this head fails with this error
abbrev pub IsNotIncluded : ChainHead → Watch → MerkleProofError → Type 0
IsNotIncluded head watch e =
    IsInclusionAnswer watch.index (leaf_of watch.entry) head.size watch.hashes head.hash (Err e)

-- a watch after this number of others: its head is none of these; else its path does not lead from its entry to that
-- head's root
abbrev pub IsWatchFault : List ChainHead → ℕ → Watch → AuditError → Type 0
IsWatchFault heads place watch e =
    ((length heads ≤ watch.head) × (e ≡ Head place))
    ⊎ ((head : ChainHead) × (slice_get heads watch.head ≡ Some head)
    × ((cause : MerkleProofError) × IsNotIncluded head watch cause × (e ≡ Inclusion place cause)))

-- the first watch with a fault; its index is the number of watches before it
pub record IsWatchesFault (heads : List ChainHead) (watched : List Watch) (e : AuditError) : Type 0 where
  pub before : List Watch
  pub watch : Watch
  pub after : List Watch
  pub split : watched ≡ before ++ watch ∷ after
  pub sound : AllByRecursion (IsWatched heads) before
  pub fault : IsWatchFault heads (length before) watch e

-- ---- the audit

-- *Fault of an audit*: there is no head; or a head has a fault; or the heads are audited, and a watch has one
abbrev pub IsAuditFault : (List ℕ → List ℕ → Bool) → List AuditHead → List Watch → AuditError → Type 0
IsAuditFault accepts heads watched e =
    ((heads ≡ []) × (e ≡ Empty))
    ⊎ IsHeadsFault accepts heads e
    ⊎ (AreAudited accepts heads × IsWatchesFault (chain_of heads) watched e)

-- the size of the last head
abbrev pub IsLatestSize : List AuditHead → ℕ → Type 0
IsLatestSize heads size = (last : AuditHead) × IsLast heads last × (last.checkpoint.note.size ≡ size)

-- the result of an audit: the latest size if the log is audited, else the first fault
abbrev pub IsAuditAnswer : (List ℕ → List ℕ → Bool) → List AuditHead → List Watch → Result ℕ AuditError → Type 0
IsAuditAnswer accepts heads watched (Ok size) = IsAudited accepts heads watched × IsLatestSize heads size
IsAuditAnswer accepts heads watched (Err e) = IsAuditFault accepts heads watched e
