-- What is shown of a refusal of `audit`, by the link that fails.
use Rattle.std.specs.Prelude.{ℕ, ◌-◌, List, [], ◌∷◌, ◌++◌, codes, slice_get, Option, Some, None, option_map}
use Rattle.hex.specs.Hex.{encode_lower}
use Rattle.sig_audit.specs.declared.error.AuditError.{AuditError}
use Rattle.sig_audit.specs.declared.error.AuditError.TheVariants as fault
use Rattle.sig_audit.specs.declared.heads.AuditHead.{AuditHead}
use Rattle.sig_audit.specs.declared.heads.Watch.{Watch}
use Rattle.sig_base.specs.Scheme.{scheme_of}
use Rattle.sig_json.specs.Writing.{TreeMember, object_of}
use Rattle.sig_explain_audit.specs.Audited.{audit_head_tree}
use Rattle.sig_explain_log.specs.Refusals.{consistency_error_rows, inclusion_error_rows, unread_rows, unsigned_rows}
use Rattle.sig_json.specs.Data.{Data}
use Rattle.sig_rekor.specs.CheckpointText.{checkpoint_of}
use Rattle.sig_request.specs.declared.audit_request.AuditRequest.{AuditRequest}
use Rattle.sig_request.specs.declared.audit_request.HeadText.{HeadText}
use Rattle.sig_shown.specs.ShownValues.{count_row, shown_rows, text_row, texts_row}

-- the index of the head or of the watched entry, and the link
abbrev pub link_rows : List ℕ → ℕ → List TreeMember
link_rows link place = count_row (codes "index") place ∷ text_row (codes "link") link ∷ []

-- ---- `checkpoint`: the first rule of the checkpoint grammar that the text breaks

abbrev pub head_unread_rows : Option HeadText → List TreeMember
head_unread_rows None = []
head_unread_rows (Some head) = unread_rows (checkpoint_of head.checkpoint)

unfoldable pub unread_tree : List HeadText → ℕ → Data
unread_tree texts place = object_of (link_rows (codes "checkpoint") place ++ head_unread_rows (slice_get texts place))

-- ---- `note-key`: what the accepted signatures have of the head's note

abbrev pub head_unsigned_rows : AuditRequest → Option HeadText → List TreeMember
head_unsigned_rows request None = []
head_unsigned_rows request (Some head) =
    unsigned_rows (scheme_of request.scheme) request.key request.accepted (checkpoint_of head.checkpoint)

-- ---- `origin`: that of the first head, and that of this one

abbrev pub head_origin_rows : List ℕ → List ℕ → Option AuditHead → List TreeMember
head_origin_rows name length_name None = []
head_origin_rows name length_name (Some head) = shown_rows name length_name head.checkpoint.note.origin

abbrev pub expected_rows : List AuditHead → List TreeMember
expected_rows heads = head_origin_rows (codes "expected") (codes "expectedLength") (slice_get heads 0)

abbrev pub got_rows : List AuditHead → ℕ → List TreeMember
got_rows heads place = head_origin_rows (codes "got") (codes "gotLength") (slice_get heads place)

-- ---- `consistency`: the tree of the head before this one, and that of this one

abbrev pub head_row : List ℕ → Option AuditHead → TreeMember
head_row name head = (name, option_map audit_head_tree head)

abbrev pub growth_rows : List AuditHead → ℕ → List TreeMember
growth_rows heads place =
    head_row (codes "old") (slice_get heads (place - 1)) ∷ head_row (codes "new") (slice_get heads place) ∷ []

-- ---- `inclusion`: the index of the watched entry, and the tree of its head

unfoldable pub watch_proof_tree : Watch → AuditHead → Data
watch_proof_tree watch head =
    object_of
    (count_row (codes "logIndex") watch.index
    ∷ count_row (codes "treeSize") head.checkpoint.note.size
    ∷ text_row (codes "rootHash") (encode_lower head.checkpoint.note.hash)
    ∷ [])

abbrev pub watch_proof : List AuditHead → Option Watch → Option Data
watch_proof heads None = None
watch_proof heads (Some watch) = option_map (watch_proof_tree watch) (slice_get heads watch.head)

abbrev pub proof_rows : AuditRequest → List AuditHead → ℕ → List TreeMember
proof_rows request heads place = (codes "proof", watch_proof heads (slice_get request.watched place)) ∷ []

-- ---- the links after `checkpoint`; the audit of a request ends with no other error

abbrev pub fault_rows : AuditRequest → List AuditHead → AuditError → List TreeMember
fault_rows request heads (fault.NoteKey place) =
    link_rows (codes "note-key") place ++ head_unsigned_rows request (slice_get request.heads place)
fault_rows request heads (fault.Origin place) =
    link_rows (codes "origin") place
    ++ (texts_row (codes "cause") (codes "Origin" ∷ []) ∷ (expected_rows heads ++ got_rows heads place))
fault_rows request heads (fault.Consistency place e) =
    link_rows (codes "consistency") place ++ (consistency_error_rows e ++ growth_rows heads place)
fault_rows request heads (fault.Inclusion place e) =
    link_rows (codes "inclusion") place ++ (inclusion_error_rows e ++ proof_rows request heads place)
fault_rows request heads other = []

unfoldable pub fault_tree : AuditRequest → List AuditHead → AuditError → Data
fault_tree request heads e = object_of (fault_rows request heads e)
