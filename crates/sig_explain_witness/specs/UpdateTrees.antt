-- What is shown of an update: the new head where it is taken, else the link that fails, the cause, and what it
-- compares.
use Rattle.std.specs.Prelude.{ℕ, zero, suc, ◌-◌, List, [], ◌∷◌, ◌++◌, codes, Option, Some, None, option_map, Result, Ok, Err}
use Rattle.sig_base.specs.ByText.{text_lookup}
use Rattle.sig_base.specs.declared.checker.AcceptedRow.{AcceptedRow}
use Rattle.sig_json.specs.Writing.{TreeMember, object_of}
use Rattle.sig_explain_log.specs.Refusals.{consistency_error_rows, unread_rows, unsigned_rows}
use Rattle.sig_explain_log.specs.Trees.{head_row, head_tree}
use Rattle.sig_json.specs.Data.{Data}
use Rattle.sig_key.specs.Key.{key_info, key_scheme}
use Rattle.sig_key.specs.declared.verification_key.CosignVerificationKey.{CosignVerificationKey}
use Rattle.sig_rekor.specs.CheckpointText.{checkpoint_of}
use Rattle.sig_rekor.specs.declared.checkpoint.SignedCheckpoint.{SignedCheckpoint}
use Rattle.sig_shown.specs.ShownValues.{count_row, shown_rows, text_row, texts_row}
use Rattle.sig_witness.specs.KeptLogs.{chain_at, last_of, log_key, size_and_root}
use Rattle.sig_witness.specs.declared.error.WitnessError.{WitnessError}
use Rattle.sig_witness.specs.declared.error.WitnessError.TheVariants as fault
use Rattle.sig_witness_command.specs.Start.{Logs}
use Rattle.sig_witness_command.specs.declared.request.UpdateText.{UpdateText}

-- for this number of updates that `note-key` refuses all members are shown, for later ones only the origin
abbrev pub most_unsigned : ℕ
most_unsigned = 16

-- ---- `checkpoint`

unfoldable pub unread_tree : UpdateText → Data
unread_tree text = object_of (text_row (codes "link") (codes "checkpoint") ∷ unread_rows (checkpoint_of text.checkpoint))

-- ---- an update that is taken

abbrev pub origin_rows : SignedCheckpoint → List TreeMember
origin_rows checkpoint = shown_rows (codes "origin") (codes "originLength") checkpoint.note.origin

unfoldable pub taken_tree : SignedCheckpoint → Data
taken_tree checkpoint = object_of (count_row (codes "accepted") checkpoint.note.size ∷ origin_rows checkpoint)

-- ---- the other links

abbrev pub unsigned_cause : TreeMember
unsigned_cause = texts_row (codes "cause") (codes "CheckpointSignatureVerificationError" ∷ [])

-- the key of an origin's log, and what the accepted signatures have of the note
abbrev pub key_rows : List AcceptedRow → Option CosignVerificationKey → UpdateText → List TreeMember
key_rows rows None text = []
key_rows rows (Some key) text = unsigned_rows (key_scheme key) (key_info key) rows (checkpoint_of text.checkpoint)

-- the same if it is still to be shown
abbrev pub asked_rows : List AcceptedRow → Option CosignVerificationKey → ℕ → UpdateText → List TreeMember
asked_rows rows key zero text = []
asked_rows rows key (suc left) text = key_rows rows key text

abbrev pub key_at : Logs → SignedCheckpoint → Option CosignVerificationKey
key_at logs checkpoint = option_map log_key (text_lookup checkpoint.note.origin logs)

-- the size and the root of the kept head of an origin
abbrev pub pair_tree : ℕ × List ℕ → Data
pair_tree head = head_tree head.0 head.1

abbrev pub kept_head : Logs → SignedCheckpoint → Option (ℕ × List ℕ)
kept_head logs checkpoint = option_map size_and_root (last_of (chain_at checkpoint.note.origin logs))

abbrev pub growth_rows : Logs → SignedCheckpoint → List TreeMember
growth_rows logs checkpoint =
    (codes "old", option_map pair_tree (kept_head logs checkpoint))
    ∷ head_row (codes "new") checkpoint.note.size checkpoint.note.hash
    ∷ []

-- ---- all

abbrev pub unknown_rows : SignedCheckpoint → List TreeMember
unknown_rows checkpoint =
    text_row (codes "link") (codes "origin")
    ∷ texts_row (codes "cause") (codes "UnknownOrigin" ∷ [])
    ∷ origin_rows checkpoint

abbrev pub old_size_rows : ℕ → UpdateText → List TreeMember
old_size_rows kept text =
    text_row (codes "link") (codes "old-size")
    ∷ texts_row (codes "cause") (codes "OldSize" ∷ [])
    ∷ count_row (codes "expected") kept
    ∷ count_row (codes "got") text.old_size
    ∷ []

abbrev pub full_rows : List TreeMember
full_rows = text_row (codes "link") (codes "full") ∷ texts_row (codes "cause") (codes "Full" ∷ []) ∷ []

-- for an update of these logs that fails with this error, while for this many more that `note-key` refuses all members
-- are shown; no update fails with another error
abbrev pub fault_rows : List AcceptedRow → Logs → ℕ → UpdateText → SignedCheckpoint → WitnessError → List TreeMember
fault_rows rows logs left text checkpoint fault.UnknownOrigin = unknown_rows checkpoint
fault_rows rows logs left text checkpoint fault.NoteKey =
    text_row (codes "link") (codes "note-key")
    ∷ unsigned_cause
    ∷ (origin_rows checkpoint ++ asked_rows rows (key_at logs checkpoint) left text)
fault_rows rows logs left text checkpoint (fault.OldSize kept) = old_size_rows kept text
fault_rows rows logs left text checkpoint (fault.Consistency e) =
    text_row (codes "link") (codes "consistency") ∷ (consistency_error_rows e ++ growth_rows logs checkpoint)
fault_rows rows logs left text checkpoint fault.Full = full_rows
fault_rows rows logs left text checkpoint other = []

unfoldable pub fault_tree : List AcceptedRow → Logs → ℕ → UpdateText → SignedCheckpoint → WitnessError → Data
fault_tree rows logs left text checkpoint e = object_of (fault_rows rows logs left text checkpoint e)

-- how many more there are afterwards
abbrev pub left_after : WitnessError → ℕ → ℕ
left_after fault.NoteKey left = left - 1
left_after other left = left

-- ---- by the result of an update

abbrev pub update_tree : List AcceptedRow → Logs → ℕ → UpdateText → SignedCheckpoint → Result (Unit {0}) WitnessError → Data
update_tree rows logs left text checkpoint (Ok _) = taken_tree checkpoint
update_tree rows logs left text checkpoint (Err e) = fault_tree rows logs left text checkpoint e

abbrev pub left_by : Result (Unit {0}) WitnessError → ℕ → ℕ
left_by (Ok _) left = left
left_by (Err e) left = left_after e left
