-- What is shown of the tree head of a request: its checkpoint has to vouch for the size and the root of a tree.
use Rattle.std.specs.Prelude.{ℕ, List}
use Rattle.sig_base.specs.Scheme.{scheme_of}
use Rattle.sig_json.specs.Writing.{TreeMember}
use Rattle.sig_rekor.specs.CheckpointText.{checkpoint_of}
use Rattle.sig_request.specs.declared.head_members.ClaimedHead.{ClaimedHead}
use Rattle.sig_explain_log.specs.Refusals.{mismatch_rows, unread_rows, unsigned_rows}
use Rattle.sig_explain_log.specs.Trees.{note_row}

-- the link `checkpoint`
abbrev pub head_unread_rows : ClaimedHead → List TreeMember
head_unread_rows head = unread_rows (checkpoint_of head.checkpoint)

-- the link `note-key`
abbrev pub head_unsigned_rows : ClaimedHead → List TreeMember
head_unsigned_rows head =
    unsigned_rows (scheme_of head.scheme) head.key head.accepted (checkpoint_of head.checkpoint)

-- the link `note-match`, beside the size and the root of the tree
abbrev pub head_mismatch_rows : ClaimedHead → ℕ → List ℕ → List TreeMember
head_mismatch_rows head size root = mismatch_rows size root (checkpoint_of head.checkpoint)

abbrev pub head_note_row : ClaimedHead → TreeMember
head_note_row head = note_row (checkpoint_of head.checkpoint)
