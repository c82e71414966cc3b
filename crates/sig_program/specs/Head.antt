-- The links on a tree head: its checkpoint has to vouch for the size and the root that a proof leads to.
use Rattle.std.specs.Prelude.{◌≡◌, ℕ, List, [], ◌∷◌, Any, Contains, Option, Some, None}
use Rattle.sig_base.specs.declared.checker.AcceptedRow.{AcceptedRow}
use Rattle.sig_base.specs.Scheme.{scheme_of}
use Rattle.sig_rekor.specs.declared.checkpoint.CheckpointSignature.{CheckpointSignature}
use Rattle.sig_rekor.specs.declared.checkpoint.SignedCheckpoint.{SignedCheckpoint}
use Rattle.sig_rekor.specs.CheckpointText.{IsCheckpoint}
use Rattle.sig_rekor.specs.NoteText.{note_text}
use Rattle.sig_verify.specs.declared.link.Link.{Link}
use Rattle.sig_verify.specs.declared.link.Link.TheVariants.{Checkpoint, NoteKey, NoteMatch}
use Rattle.sig_reply.specs.NoteRow.{note_row}
use Rattle.sig_request.specs.declared.head_members.ClaimedHead.{ClaimedHead}
use Rattle.sig_program.specs.Verdict.{IsLinkVerdict}

-- the links on a tree head, in their order
abbrev pub head_links : List Link
head_links = Checkpoint ∷ NoteKey ∷ NoteMatch ∷ []

-- the row that says that the log's key signed the note
abbrev pub head_row : ClaimedHead → SignedCheckpoint → CheckpointSignature → AcceptedRow
head_row head checkpoint signature =
    note_row (scheme_of head.scheme) head.key (note_text checkpoint.note) signature.raw

-- one of the signatures over the note text is accepted under the log's scheme and key
abbrev pub HasAcceptedSignature : ClaimedHead → SignedCheckpoint → Type 0
HasAcceptedSignature head checkpoint =
    Any (λ signature. Contains head.accepted (head_row head checkpoint signature)) checkpoint.signatures

-- the note is of a tree of this size and root
abbrev pub IsMatched : ℕ → List ℕ → SignedCheckpoint → Type 0
IsMatched size root checkpoint = (checkpoint.note.size ≡ size) × (checkpoint.note.hash ≡ root)

-- a link on the checkpoint: it has a reading, and this holds of it
abbrev pub OfHeadCheckpoint : ClaimedHead → (SignedCheckpoint → Type 0) → Type 0
OfHeadCheckpoint head P = (checkpoint : SignedCheckpoint) × IsCheckpoint head.checkpoint checkpoint × P checkpoint

-- what a link requires of a tree head of this size and root, if all links before it hold
abbrev pub HoldsOfHead : ClaimedHead → ℕ → List ℕ → Link → Type 0
HoldsOfHead head size root Checkpoint = OfHeadCheckpoint head (λ _. Unit {0})
HoldsOfHead head size root NoteKey = OfHeadCheckpoint head (HasAcceptedSignature head)
HoldsOfHead head size root NoteMatch = OfHeadCheckpoint head (IsMatched size root)
HoldsOfHead head size root other = Unit {0}

-- the first failing link of a tree head, or `None`
abbrev pub IsHeadVerdict : ClaimedHead → ℕ → List ℕ → Option Link → Type 0
IsHeadVerdict head size root = IsLinkVerdict (HoldsOfHead head size root) head_links

-- the first failing link after the checkpoint, or `None`, where this is the checkpoint's reading
abbrev pub IsHeadVerdictUnder : ClaimedHead → ℕ → List ℕ → SignedCheckpoint → Option Link → Type 0
IsHeadVerdictUnder head size root checkpoint None = HasAcceptedSignature head checkpoint
    × IsMatched size root checkpoint
IsHeadVerdictUnder head size root checkpoint (Some NoteKey) = ¬ HasAcceptedSignature head checkpoint
IsHeadVerdictUnder head size root checkpoint (Some NoteMatch) =
    HasAcceptedSignature head checkpoint × ¬ IsMatched size root checkpoint
IsHeadVerdictUnder head size root checkpoint (Some other) = ⊥
