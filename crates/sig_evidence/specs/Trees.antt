-- What an inclusion proof and the note of its checkpoint say of a tree.
use Rattle.std.specs.Prelude.{List, [], ◌∷◌, ◌++◌, codes, Some, option_map}
use Rattle.hex.specs.Hex.{encode_lower}
use Rattle.sig_json.specs.Writing.{TreeMember, integer_tree, object_of}
use Rattle.sig_json.specs.Data.{Data}
use Rattle.sig_rekor.specs.declared.checkpoint.Checkpoint.{Checkpoint}
use Rattle.sig_rekor.specs.declared.inclusion_proof.InclusionProof.{InclusionProof}
use Rattle.sig_shown.specs.ShownValues.{count_row, shown_rows, text_row}

unfoldable pub proof_tree : InclusionProof → Data
proof_tree proof =
    object_of
    ((codes "logIndex", Some (integer_tree proof.log_index))
    ∷ count_row (codes "treeSize") proof.tree_size
    ∷ text_row (codes "rootHash") (encode_lower proof.root_hash)
    ∷ [])

unfoldable pub note_tree : Checkpoint → Data
note_tree note =
    object_of
    (shown_rows (codes "origin") (codes "originLength") note.origin
    ++ (count_row (codes "treeSize") note.size ∷ text_row (codes "rootHash") (encode_lower note.hash) ∷ []))

-- the proof, and the note of its checkpoint
abbrev pub trees_rows : InclusionProof → List TreeMember
trees_rows proof =
    (codes "proof", Some (proof_tree proof))
    ∷ (codes "note", option_map (λ checkpoint. note_tree checkpoint.note) proof.checkpoint)
    ∷ []
