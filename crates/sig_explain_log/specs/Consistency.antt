-- What is shown of a request of `consistency`: why its first failing link fails, or what was verified.
use Rattle.std.specs.Prelude.{List, [], ◌∷◌, ◌++◌, codes, Option, Some, None, Result}
use Rattle.sig_base.specs.declared.merkle_error.MerkleProofError.{MerkleProofError}
use Rattle.sig_json.specs.Writing.{TreeMember, object_of}
use Rattle.sig_json.specs.Data.{Data}
use Rattle.sig_merkle.specs.ConsistencyAnswer.{consistency_answer}
use Rattle.sig_request.specs.declared.consistency_request.ConsistencyRequest.{ConsistencyRequest}
use Rattle.sig_verify.specs.Link.{link_name}
use Rattle.sig_verify.specs.declared.link.Link.{Link}
use Rattle.sig_verify.specs.declared.link.Link.TheVariants.{Checkpoint, Consistency, NoteKey, NoteMatch}
use Rattle.sig_shown.specs.ShownValues.{text_row}
use Rattle.sig_explain_log.specs.Head.{head_mismatch_rows, head_note_row, head_unread_rows, head_unsigned_rows}
use Rattle.sig_explain_log.specs.Refusals.{consistency_rows}
use Rattle.sig_explain_log.specs.Trees.{head_row}

-- the new tree, and the older one

abbrev pub new_row : ConsistencyRequest → TreeMember
new_row request = head_row (codes "new") request.tree_size request.root_hash

abbrev pub old_row : ConsistencyRequest → TreeMember
old_row request = head_row (codes "old") request.old_size request.old_root

abbrev pub growth_answer : ConsistencyRequest → Result (Unit {0}) MerkleProofError
growth_answer request =
    consistency_answer request.old_size request.tree_size request.hashes request.old_root request.root_hash

-- what is wrong with the note, beside the new tree
abbrev pub new_rows : ConsistencyRequest → List TreeMember
new_rows request = new_row request ∷ head_note_row request.head ∷ []

abbrev pub consistency_match_rows : ConsistencyRequest → List TreeMember
consistency_match_rows request =
    head_mismatch_rows request.head request.tree_size request.root_hash ++ new_rows request

-- both trees and the note
abbrev pub grown_rows : ConsistencyRequest → List TreeMember
grown_rows request = old_row request ∷ new_rows request

-- what is wrong with the hashes between the trees: sizes that the error keeps under the names of the trees give way to
-- these
abbrev pub growth_rows : ConsistencyRequest → List TreeMember
growth_rows request = consistency_rows (growth_answer request) ++ grown_rows request

-- what is shown of the link that fails; nothing for a link that `consistency` does not have
abbrev pub consistency_link_rows : ConsistencyRequest → Link → List TreeMember
consistency_link_rows request Checkpoint = head_unread_rows request.head
consistency_link_rows request NoteKey = head_unsigned_rows request.head
consistency_link_rows request NoteMatch = consistency_match_rows request
consistency_link_rows request Consistency = growth_rows request
consistency_link_rows request other = []

abbrev pub consistency_tree_rows : ConsistencyRequest → Option Link → List TreeMember
consistency_tree_rows request None = grown_rows request
consistency_tree_rows request (Some link) =
    text_row (codes "link") (link_name link) ∷ consistency_link_rows request link

unfoldable pub consistency_tree : ConsistencyRequest → Option Link → Data
consistency_tree request failing = object_of (consistency_tree_rows request failing)
