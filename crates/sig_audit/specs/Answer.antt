-- The result of an audit in one equation, for private clauses: head by head, then watch by watch.
use Rattle.std.specs.Prelude.{ℕ, ◌+◌, ◌-◌, Bool, List, [], ◌∷◌, length, bytes_eq, slice_get, if◌then◌else◌, Option, Some, None}
use Rattle.std.specs.Prelude.{Result, Ok, Err}
use Rattle.sig_base.specs.ResultSteps.{◌>>=◌}
use Rattle.sig_base.specs.declared.merkle_error.MerkleProofError.{MerkleProofError}
use Rattle.sig_merkle.specs.ConsistencyAnswer.{consistency_answer}
use Rattle.sig_merkle.specs.Inclusion.{inclusion_answer}
use Rattle.sig_merkle.specs.Root.{leaf_of}
use Rattle.sig_rekor.specs.Verify.{has_accepted_signature}
use Rattle.sig_audit.specs.declared.error.AuditError.{AuditError}
use Rattle.sig_audit.specs.declared.error.AuditError.TheVariants.{Empty, NoteKey, Origin, Consistency, Head, Inclusion}
use Rattle.sig_audit.specs.declared.heads.AuditHead.{AuditHead}
use Rattle.sig_audit.specs.declared.heads.Watch.{Watch}

module _ {A E : Type 0} where
  -- the first error of a step on each element in turn, which sees the one before it and its index
  unfoldable pub first_error : (Option A → ℕ → A → Result (Unit {0}) E) → Option A → ℕ → List A → Result (Unit {0}) E
  first_error step before place [] = Ok tt
  first_error step before place (x ∷ later) = do
    _ ← step before place x
    first_error step (Some x) (place + 1) later

-- the error of a proof as that of the head or the watch that it is of
abbrev pub as_fault : (MerkleProofError → AuditError) → Result (Unit {0}) MerkleProofError → Result (Unit {0}) AuditError
as_fault named (Ok _) = Ok tt
as_fault named (Err e) = Err (named e)

-- the check of a head's consistency proof, from the head before it if there is one
abbrev pub growth_answer : Option AuditHead → ℕ → AuditHead → Result (Unit {0}) AuditError
growth_answer None place head = Ok tt
growth_answer (Some older) place head =
    let old = older.checkpoint.note in
    let new = head.checkpoint.note in
    as_fault (Consistency place) (consistency_answer old.size new.size head.hashes old.hash new.hash)

-- the check of the head at this index
unfoldable pub head_answer : (List ℕ → List ℕ → Bool) → AuditHead → Option AuditHead → ℕ → AuditHead
    → Result (Unit {0}) AuditError
head_answer accepts first before place head =
    if has_accepted_signature accepts head.checkpoint
    then (if bytes_eq head.checkpoint.note.origin first.checkpoint.note.origin
    then growth_answer before place head
    else Err (Origin place))
    else Err (NoteKey place)

-- the check of a watch under its head, if there is one
abbrev pub path_answer : ℕ → Watch → Option AuditHead → Result (Unit {0}) AuditError
path_answer place watch None = Err (Head place)
path_answer place watch (Some head) =
    let note = head.checkpoint.note in
    as_fault (Inclusion place) (inclusion_answer watch.index (leaf_of watch.entry) note.size watch.hashes note.hash)

-- the check of the watch at this index
abbrev pub watch_answer : List AuditHead → Option Watch → ℕ → Watch → Result (Unit {0}) AuditError
watch_answer heads before place watch = path_answer place watch (slice_get heads watch.head)

-- the size of the last head, or of the first if it is the only one
abbrev pub size_or : AuditHead → Option AuditHead → ℕ
size_or first None = first.checkpoint.note.size
size_or first (Some last) = last.checkpoint.note.size

abbrev pub latest_size : AuditHead → List AuditHead → ℕ
latest_size first later = size_or first (slice_get later (length later - 1))

unfoldable pub audit_answer : (List ℕ → List ℕ → Bool) → List AuditHead → List Watch → Result ℕ AuditError
audit_answer accepts [] watched = Err Empty
audit_answer accepts (first ∷ later) watched = do
  _ ← first_error (head_answer accepts first) None 0 (first ∷ later)
  _ ← first_error (watch_answer (first ∷ later)) None 0 watched
  Ok (latest_size first later)
