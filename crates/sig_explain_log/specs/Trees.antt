-- What is shown of a log's tree: its size and root, the note of its checkpoint, and an entry.
use Rattle.std.specs.Prelude.{ℕ, List, [], ◌∷◌, codes, Option, Some, None, Result, Ok, Err}
use Rattle.hex.specs.Hex.{encode_lower}
use Rattle.sig_base.specs.declared.fault.CheckpointFault.{CheckpointFault}
use Rattle.sig_json.specs.Writing.{TreeMember, object_of}
use Rattle.sig_evidence.specs.Trees.{note_tree}
use Rattle.sig_json.specs.Data.{Data}
use Rattle.sig_rekor.specs.declared.checkpoint.SignedCheckpoint.{SignedCheckpoint}
use Rattle.sig_shown.specs.ShownValues.{count_row, sha256_tree, text_row}

-- the size and the root of a tree
unfoldable pub head_tree : ℕ → List ℕ → Data
head_tree size root =
    object_of (count_row (codes "treeSize") size ∷ text_row (codes "rootHash") (encode_lower root) ∷ [])

abbrev pub head_row : List ℕ → ℕ → List ℕ → TreeMember
head_row name size root = (name, Some (head_tree size root))

-- the note of what a text was read as; nothing if it is not a checkpoint
abbrev pub note_in : Result SignedCheckpoint CheckpointFault → Option Data
note_in (Ok checkpoint) = Some (note_tree checkpoint.note)
note_in (Err _) = None

abbrev pub note_row : Result SignedCheckpoint CheckpointFault → TreeMember
note_row read = (codes "note", note_in read)

-- the SHA-256 of an entry
abbrev pub entry_row : List ℕ → TreeMember
entry_row entry = (codes "entrySha256", Some (sha256_tree entry))
