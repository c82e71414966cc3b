-- What is shown of a request of `log`: why its first failing link fails, or what was verified.
use Rattle.std.specs.Prelude.{ℤ, pos, negsuc, List, [], ◌∷◌, ◌++◌, codes, Option, Some, None, Result, Err}
use Rattle.sig_base.specs.declared.merkle_error.MerkleProofError.{MerkleProofError}
use Rattle.sig_base.specs.declared.merkle_error.MerkleProofError.TheVariants.{IndexGtTreeSize}
use Rattle.sig_json.specs.Writing.{TreeMember, object_of}
use Rattle.sig_evidence.specs.Trees.{proof_tree}
use Rattle.sig_json.specs.Data.{Data}
use Rattle.sig_merkle.specs.Inclusion.{inclusion_answer}
use Rattle.sig_merkle.specs.Root.{leaf_of}
use Rattle.sig_request.specs.declared.request.LogRequest.{LogRequest}
use Rattle.sig_rekor.specs.declared.inclusion_proof.InclusionProof.{InclusionProof}
use Rattle.sig_verify.specs.Link.{link_name}
use Rattle.sig_verify.specs.declared.link.Link.{Link}
use Rattle.sig_verify.specs.declared.link.Link.TheVariants.{Checkpoint, Inclusion, NoteKey, NoteMatch}
use Rattle.sig_shown.specs.ShownValues.{text_row}
use Rattle.sig_explain_log.specs.Head.{head_mismatch_rows, head_note_row, head_unread_rows, head_unsigned_rows}
use Rattle.sig_explain_log.specs.Refusals.{inclusion_rows}
use Rattle.sig_explain_log.specs.Trees.{entry_row}

abbrev pub proof_row : InclusionProof → TreeMember
proof_row proof = (codes "proof", Some (proof_tree proof))

-- the check of the path from the entry's leaf; no leaf has a negative index
abbrev pub path_answer : ℤ → LogRequest → Result (Unit {0}) MerkleProofError
path_answer (pos index) request =
    inclusion_answer index (leaf_of request.entry) request.proof.tree_size request.proof.hashes request.proof.root_hash
path_answer (negsuc _) request = Err IndexGtTreeSize

-- what these links compare
abbrev pub log_trees_rows : LogRequest → List TreeMember
log_trees_rows request = proof_row request.proof ∷ head_note_row request.head ∷ []

-- what is wrong with the note, beside the proof
abbrev pub log_match_rows : LogRequest → List TreeMember
log_match_rows request =
    head_mismatch_rows request.head request.proof.tree_size request.proof.root_hash ++ log_trees_rows request

-- what is wrong with the path
abbrev pub log_inclusion_rows : LogRequest → List TreeMember
log_inclusion_rows request = inclusion_rows (path_answer request.proof.log_index request) ++ log_trees_rows request

-- what is shown of the link that fails; nothing for a link that `log` does not have
abbrev pub log_link_rows : LogRequest → Link → List TreeMember
log_link_rows request Checkpoint = head_unread_rows request.head
log_link_rows request NoteKey = head_unsigned_rows request.head
log_link_rows request NoteMatch = log_match_rows request
log_link_rows request Inclusion = log_inclusion_rows request
log_link_rows request other = []

-- the entry that is logged, the proof and the note
abbrev pub logged_rows : LogRequest → List TreeMember
logged_rows request = entry_row request.entry ∷ log_trees_rows request

abbrev pub log_rows : LogRequest → Option Link → List TreeMember
log_rows request None = logged_rows request
log_rows request (Some link) = text_row (codes "link") (link_name link) ∷ log_link_rows request link

unfoldable pub log_tree : LogRequest → Option Link → Data
log_tree request failing = object_of (log_rows request failing)
