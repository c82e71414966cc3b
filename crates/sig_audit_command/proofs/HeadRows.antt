-- The list of the signatures of the heads, head by head and signature by signature.
use Rattle.std.proofs.Common.{◌≡◌, ◌<◌, ◌≤◌, ◌+◌, ◌∙◌, ℕ, List, [], ◌∷◌, ◌++◌, length, take, drop, get_or, map}
use Rattle.std.proofs.Common.{Option, Some, None, Ok, ap, arith, refl, subst, sym}
use Rattle.std.proofs.lemmas.List.{append-nil, append_assoc, take-append-drop, take_all, take_more}
use Rattle.sig_audit.specs.declared.heads.AuditHead.{AuditHead}
use Rattle.sig_base.specs.declared.checker.AcceptedRow.{AcceptedRow}
use Rattle.sig_json.specs.Data.{Data, depth}
use Rattle.sig_json.specs.Document.{document_of}
use Rattle.sig_json.specs.Read.{max_depth}
use Rattle.sig_json.specs.Written.{compact_text}
use Rattle.sig_rekor.specs.declared.checkpoint.CheckpointSignature.{CheckpointSignature}
use Rattle.sig_rekor.specs.declared.checkpoint.SignedCheckpoint.{SignedCheckpoint}
use Rattle.sig_reply.proofs.RowsTexts.{list_of-more, list_of-past, list_of-whole, longer}
use Rattle.sig_reply.specs.RowsText.{AddsRow, IsDocumentOf, IsListOf, IsRowReadBack, rows_text}
use Rattle.sig_request.specs.declared.audit_request.AuditRequest.{AuditRequest}
use Rattle.sig_audit_command.specs.Questions.{HasAdded, audit_rows, head_row, note_rows}

-- ---- the signatures of one checkpoint

module _ (request : AuditRequest) (checkpoint : SignedCheckpoint) where
  -- the rows of its first signatures
  abbrev pub rows_so_far : ℕ → List AcceptedRow
  rows_so_far count = map (head_row request checkpoint) (take count checkpoint.signatures)

  map-append : (xs : List CheckpointSignature) (x : CheckpointSignature)
      → map (head_row request checkpoint) (xs ++ x ∷ []) ≡ map (head_row request checkpoint) xs
      ++ head_row request checkpoint x ∷ []
  map-append [] x = refl
  map-append (y ∷ ys) x = ap (λ rest. head_row request checkpoint y ∷ rest) (map-append ys x)

  rows-more : (count : ℕ) (signature : CheckpointSignature) → count < length checkpoint.signatures
      → signature ≡ get_or checkpoint.signatures count signature
      → rows_so_far (count + 1) ≡ rows_so_far count ++ head_row request checkpoint signature ∷ []
  rows-more count signature below is =
      ap (map (head_row request checkpoint)) (take_more checkpoint.signatures count signature below
      ∙ ap (λ s. take count checkpoint.signatures ++ s ∷ []) (sym is))
      ∙ map-append (take count checkpoint.signatures) signature

  rows-whole : (count : ℕ) → length checkpoint.signatures ≤ count → rows_so_far count ≡ note_rows request checkpoint
  rows-whole count all = ap (map (head_row request checkpoint)) (take_all count checkpoint.signatures all)

  map-parts : (xs ys : List CheckpointSignature)
      → map (head_row request checkpoint) (xs ++ ys) ≡ map (head_row request checkpoint) xs
      ++ map (head_row request checkpoint) ys
  map-parts [] ys = refl
  map-parts (x ∷ xs) ys = ap (λ rest. head_row request checkpoint x ∷ rest) (map-parts xs ys)

  -- all of them are the first ones and the others
  rows-split : (count : ℕ) → note_rows request checkpoint ≡ rows_so_far count
      ++ map (head_row request checkpoint) (drop count checkpoint.signatures)
  rows-split count =
      ap (map (head_row request checkpoint)) (sym (take-append-drop count checkpoint.signatures))
      ∙ map-parts (take count checkpoint.signatures) (drop count checkpoint.signatures)

  pub sign-none : (most : ℕ) (before : List AcceptedRow) (list : Data) (size : ℕ) → IsListOf most before list size
      → IsListOf most (before ++ rows_so_far 0) list size
  sign-none most before list size is =
      subst (λ (rows : List AcceptedRow). IsListOf most rows list size) (sym (append-nil before)) is

  pub sign-more : (most : ℕ) (before : List AcceptedRow) (count : ℕ) (signature : CheckpointSignature)
      (old new : Data) (size sum : ℕ) → count < length checkpoint.signatures
      → signature ≡ get_or checkpoint.signatures count signature
      → IsListOf most (before ++ rows_so_far count) old size
      → IsRowReadBack (head_row request checkpoint signature)
      → AddsRow most old new size (head_row request checkpoint signature) (Some sum)
      → IsListOf most (before ++ rows_so_far (count + 1)) new sum
  sign-more most before count signature old new size sum below is listed back added =
      subst (λ (rows : List AcceptedRow). IsListOf most rows new sum)
      (append_assoc before (rows_so_far count) (head_row request checkpoint signature ∷ [])
      ∙ ap (λ rows. before ++ rows) (sym (rows-more count signature below is)))
      (list_of-more most (before ++ rows_so_far count) (head_row request checkpoint signature) old new size sum listed
      back added)

  pub sign-past : (most : ℕ) (before : List AcceptedRow) (count : ℕ) (signature : CheckpointSignature)
      (old new : Data) (size : ℕ) → count < length checkpoint.signatures
      → signature ≡ get_or checkpoint.signatures count signature
      → IsListOf most (before ++ rows_so_far count) old size
      → AddsRow most old new size (head_row request checkpoint signature) None
      → HasAdded most (before ++ note_rows request checkpoint) new None
  sign-past most before count signature old new size below is listed long =
      let row = head_row request checkpoint signature in
      let rest = map (head_row request checkpoint) (drop (count + 1) checkpoint.signatures) in
      let past = list_of-past most (before ++ rows_so_far count) row rest old new size listed long in
      let whole : (before ++ rows_so_far count) ++ row ∷ rest ≡ before ++ note_rows request checkpoint =
      append_assoc before (rows_so_far count) (row ∷ rest)
      ∙ ap (λ rows. before ++ rows) (sym (append_assoc (rows_so_far count) (row ∷ []) rest)
      ∙ ap (λ rows. rows ++ rest) (sym (rows-more count signature below is))
      ∙ sym (rows-split (count + 1))) in
      subst (λ (rows : List AcceptedRow). most < length (rows_text rows)) whole past

  pub sign-done : (most : ℕ) (before : List AcceptedRow) (count : ℕ) (list : Data) (size : ℕ)
      → length checkpoint.signatures ≤ count → IsListOf most (before ++ rows_so_far count) list size
      → HasAdded most (before ++ note_rows request checkpoint) list (Some size)
  sign-done most before count list size all listed =
      subst (λ (rows : List AcceptedRow). IsListOf most (before ++ rows) list size) (rows-whole count all) listed

-- ---- the signatures of the heads

module _ (request : AuditRequest) where
  audit_rows-append : (xs ys : List AuditHead)
      → audit_rows request (xs ++ ys) ≡ audit_rows request xs ++ audit_rows request ys
  audit_rows-append [] ys = refl
  audit_rows-append (x ∷ xs) ys =
      ap (λ rest. note_rows request x.checkpoint ++ rest) (audit_rows-append xs ys)
      ∙ sym (append_assoc (note_rows request x.checkpoint) (audit_rows request xs) (audit_rows request ys))

  audit_rows-more : (heads : List AuditHead) (count : ℕ) (head : AuditHead) → count < length heads
      → head ≡ get_or heads count head
      → audit_rows request (take (count + 1) heads)
      ≡ audit_rows request (take count heads) ++ note_rows request head.checkpoint
  audit_rows-more heads count head below is =
      ap (audit_rows request) (take_more heads count head below ∙ ap (λ h. take count heads ++ h ∷ []) (sym is))
      ∙ audit_rows-append (take count heads) (head ∷ [])
      ∙ ap (λ rows. audit_rows request (take count heads) ++ rows) (append-nil (note_rows request head.checkpoint))

  pub head-more : (most : ℕ) (heads : List AuditHead) (count : ℕ) (head : AuditHead) (new : Data) (sum : ℕ)
      → count < length heads → head ≡ get_or heads count head
      → HasAdded most (audit_rows request (take count heads) ++ note_rows request head.checkpoint) new (Some sum)
      → IsListOf most (audit_rows request (take (count + 1) heads)) new sum
  head-more most heads count head new sum below is added =
      subst (λ (rows : List AcceptedRow). IsListOf most rows new sum) (sym (audit_rows-more heads count head below is))
      added

  pub head-past : (most : ℕ) (heads : List AuditHead) (count : ℕ) (head : AuditHead) (new : Data)
      → count < length heads → head ≡ get_or heads count head
      → HasAdded most (audit_rows request (take count heads) ++ note_rows request head.checkpoint) new None
      → IsDocumentOf most (audit_rows request heads) None
  head-past most heads count head new below is long =
      let past : most < length (rows_text (audit_rows request (take (count + 1) heads))) =
      subst (λ (rows : List AcceptedRow). most < length (rows_text rows)) (sym (audit_rows-more heads count head below is))
      long in
      let whole : audit_rows request (take (count + 1) heads) ++ audit_rows request (drop (count + 1) heads)
      ≡ audit_rows request heads =
      sym (audit_rows-append (take (count + 1) heads) (drop (count + 1) heads))
      ∙ ap (audit_rows request) (take-append-drop (count + 1) heads) in
      subst (λ (rows : List AcceptedRow). most < length (rows_text rows)) whole
      (longer most (audit_rows request (take (count + 1) heads)) (audit_rows request (drop (count + 1) heads)) past)

  pub heads-whole : (most : ℕ) (heads : List AuditHead) (count : ℕ) (list shown : Data) (size : ℕ) (text : List ℕ)
      → length heads ≤ count → IsListOf most (audit_rows request (take count heads)) list size → shown ≡ list
      → text ≡ compact_text shown → (depth shown ≤ max_depth → document_of text ≡ Ok shown)
      → IsDocumentOf most (audit_rows request heads) (Some text)
  heads-whole most heads count list shown size text all listed =
      list_of-whole most (audit_rows request heads) list shown size text
      (subst (λ (hs : List AuditHead). IsListOf most (audit_rows request hs) list size) (take_all count heads all) listed)
