-- What is shown of an audited log: what its heads say of their trees, and the entries that are watched.
use Rattle.std.specs.Prelude.{ℕ, List, [], ◌∷◌, ◌++◌, codes, length, take, Some}
use Rattle.sig_audit.specs.declared.heads.AuditHead.{AuditHead}
use Rattle.sig_audit.specs.declared.heads.Watch.{Watch}
use Rattle.sig_json.specs.Writing.{TreeMember, list_tree, object_of}
use Rattle.sig_explain_log.specs.Trees.{head_tree}
use Rattle.sig_json.specs.Data.{Data}
use Rattle.sig_shown.specs.ShownValues.{count_row, sha256_tree, shown_rows}

-- how many heads, and how many watched entries, are shown at most
abbrev pub most_shown : ℕ
most_shown = 256

-- what a head says of its tree
abbrev pub audit_head_tree : AuditHead → Data
audit_head_tree head = head_tree head.checkpoint.note.size head.checkpoint.note.hash

-- a watched entry: the index of its head, its own index in the head's tree, and the SHA-256 of its bytes
unfoldable pub watch_tree : Watch → Data
watch_tree watch =
    object_of
    (count_row (codes "head") watch.head
    ∷ count_row (codes "index") watch.index
    ∷ (codes "entrySha256", Some (sha256_tree watch.entry))
    ∷ [])

-- the origin of the first head, which is that of all
abbrev pub origin_rows : List AuditHead → List TreeMember
origin_rows [] = []
origin_rows (first ∷ later) = shown_rows (codes "origin") (codes "originLength") first.checkpoint.note.origin

-- the heads and the watched entries, and how many there are of each
unfoldable pub audited_tree : List AuditHead → List Watch → Data
audited_tree heads watched =
    object_of
    (count_row (codes "headCount") (length heads)
    ∷ (codes "heads", Some (list_tree audit_head_tree (take most_shown heads)))
    ∷ count_row (codes "watchedCount") (length watched)
    ∷ (codes "watched", Some (list_tree watch_tree (take most_shown watched)))
    ∷ origin_rows heads)
