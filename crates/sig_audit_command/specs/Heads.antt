-- The heads of a request of `audit`, as their checkpoints are read.
use Rattle.std.specs.Prelude.{◌≡◌, ℕ, ◌<◌, Bool, List, length, take, slice_get, Some, ⊤}
use Rattle.std.specs.List.{AllByRecursion, AllZip}
use Rattle.sig_audit.specs.declared.heads.AuditHead.{AuditHead}
use Rattle.sig_audit.specs.declared.heads.Watch.{Watch}
use Rattle.sig_base.specs.Checker.{accepted}
use Rattle.sig_base.specs.Scheme.{name_of, scheme_of}
use Rattle.sig_base.specs.declared.checker.Operation.TheVariants.{Message}
use Rattle.sig_rekor.specs.CheckpointText.{IsCheckpoint}
use Rattle.sig_rekor.specs.declared.checkpoint.SignedCheckpoint.{SignedCheckpoint}
use Rattle.sig_audit_command.specs.declared.read_heads.NoHeads.{NoHeads}
use Rattle.sig_audit_command.specs.declared.read_heads.NoHeads.TheVariants.{Checkpoint, OutOfMemory}
use Rattle.sig_request.specs.declared.audit_request.AuditRequest.{AuditRequest}
use Rattle.sig_request.specs.declared.audit_request.HeadText.{HeadText}

-- the head is this one: its text is the checkpoint, and it has the same hashes
abbrev pub IsHead : HeadText → AuditHead → Type 0
IsHead text head = IsCheckpoint text.checkpoint head.checkpoint × (head.hashes ≡ text.hashes)

-- the heads are these, in order
abbrev pub AreHeads : List HeadText → List AuditHead → Type 0
AreHeads texts heads = AllZip IsHead texts heads

-- the text of the head is a checkpoint
abbrev pub HasReading : HeadText → Type 0
HasReading text = (checkpoint : SignedCheckpoint) × IsCheckpoint text.checkpoint checkpoint

-- the head at this index is the first whose text is not a checkpoint
abbrev pub IsFirstUnread : List HeadText → ℕ → Type 0
IsFirstUnread texts place =
    AllByRecursion HasReading (take place texts)
    × ((text : HeadText) × (slice_get texts place ≡ Some text) × ¬ HasReading text)

-- for private clauses: why there are no heads
abbrev pub IsNoHeads : List HeadText → NoHeads → Type 0
IsNoHeads texts (Checkpoint place) = IsFirstUnread texts place
IsNoHeads texts OutOfMemory = ⊤

-- for private clauses: the head of the watched entry is one of these
abbrev pub IsUnder : List AuditHead → Watch → Type 0
IsUnder heads watch = watch.head < length heads

-- what the request accepts as genuine under the log's scheme and key: messages and signatures
abbrev pub accepts : AuditRequest → List ℕ → List ℕ → Bool
accepts request message signature =
    accepted request.accepted Message (name_of (scheme_of request.scheme)) request.key message signature
