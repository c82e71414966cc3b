-- The signatures of the updates so far, signature by signature and text by text.
use Rattle.std.proofs.Common.{◌≡◌, ◌<◌, ◌≤◌, ◌+◌, ◌^◌, ◌∙◌, ℕ, Bool, true, false, List, [], ◌∷◌, ◌++◌, length, map, take, drop, get_or, inl, inr, ◌⊎◌}
use Rattle.std.proofs.Common.{Option, Some, None, Result, Ok, Err, ap, arith, refl, subst, sym}
use Rattle.std.specs.Option.{option_map}
use Rattle.std.proofs.lemmas.List.{append-nil, append_assoc, take-append-drop, take_all, take_more}
use Rattle.sig_base.specs.ByText.{text_lookup}
use Rattle.sig_base.specs.declared.checker.AcceptedRow.{AcceptedRow}
use Rattle.sig_base.specs.declared.fault.CheckpointFault.{CheckpointFault}
use Rattle.sig_key.specs.declared.verification_key.CosignVerificationKey.{CosignVerificationKey}
use Rattle.sig_json.specs.Data.{Data, depth}
use Rattle.sig_json.specs.Document.{document_of}
use Rattle.sig_json.specs.Read.{max_depth}
use Rattle.sig_json.specs.Tree.{document_tree}
use Rattle.sig_json.specs.Written.{compact_text}
use Rattle.sig_rekor.proofs.CheckpointLaws.{checkpoint-found, checkpoint-only}
use Rattle.sig_rekor.specs.CheckpointText.{IsCheckpoint, checkpoint_of}
use Rattle.sig_rekor.specs.NoteText.{note_text}
use Rattle.sig_rekor.specs.declared.checkpoint.CheckpointSignature.{CheckpointSignature}
use Rattle.sig_rekor.specs.declared.checkpoint.SignedCheckpoint.{SignedCheckpoint}
use Rattle.sig_reply.proofs.RowsTexts.{list_of-whole, longer}
use Rattle.sig_reply.specs.RowsText.{IsDocumentOf, rows_text}
use Rattle.sig_witness.specs.KeptLogs.{log_key}
use Rattle.sig_witness.specs.Updates.{Update, update_of}
use Rattle.sig_witness_command.proofs.Marks.{next-place, put-more, put-past}
use Rattle.sig_witness_command.proofs.DistinctRows.{once-begins, once-parts}
use Rattle.sig_witness_command.specs.Outcome.{HasReading, IsUpdate}
use Rattle.sig_witness_command.specs.Questions.{IsNotesDocument, checkpoint_rows, each_once_after, note_rows}
use Rattle.sig_witness_command.specs.Questions.{rows_under, signature_row, update_rows, with_row, witness_rows}
use Rattle.sig_witness_command.specs.RowList.{HasAdded, HasAddedRows, HasAddedText, IsCoded, IsListSoFar, IsPut}
use Rattle.sig_witness_command.specs.Start.{HaveLines, Logs}
use Rattle.sig_witness_command.specs.Walk.{AreUpdates}
use Rattle.sig_witness_command.specs.declared.request.UpdateText.{UpdateText}
use Rattle.sig_witness_command.specs.declared.row_list.RowList.{RowList}

-- ---- the signatures of one checkpoint

module _ (key : CosignVerificationKey) (checkpoint : SignedCheckpoint) where
  -- the rows of its first signatures
  abbrev pub rows_so_far : ℕ → List AcceptedRow
  rows_so_far count = map (signature_row key checkpoint) (take count checkpoint.signatures)

  map-parts : (xs ys : List CheckpointSignature)
      → map (signature_row key checkpoint) (xs ++ ys) ≡ map (signature_row key checkpoint) xs
      ++ map (signature_row key checkpoint) ys
  map-parts [] ys = refl
  map-parts (x ∷ xs) ys = ap (λ rest. signature_row key checkpoint x ∷ rest) (map-parts xs ys)

  rows-more : (count : ℕ) (signature : CheckpointSignature) → count < length checkpoint.signatures
      → signature ≡ get_or checkpoint.signatures count signature
      → rows_so_far (count + 1) ≡ rows_so_far count ++ signature_row key checkpoint signature ∷ []
  rows-more count signature below is =
      ap (map (signature_row key checkpoint)) (take_more checkpoint.signatures count signature below
      ∙ ap (λ s. take count checkpoint.signatures ++ s ∷ []) (sym is))
      ∙ map-parts (take count checkpoint.signatures) (signature ∷ [])

  rows-whole : (count : ℕ) → length checkpoint.signatures ≤ count → rows_so_far count ≡ note_rows key checkpoint
  rows-whole count all = ap (map (signature_row key checkpoint)) (take_all count checkpoint.signatures all)

  -- all of them are the first ones, the next and the others
  rows-split : (count : ℕ) (signature : CheckpointSignature) → count < length checkpoint.signatures
      → signature ≡ get_or checkpoint.signatures count signature
      → note_rows key checkpoint ≡ rows_so_far count ++ signature_row key checkpoint signature ∷
      map (signature_row key checkpoint) (drop (count + 1) checkpoint.signatures)
  rows-split count signature below is =
      let rest = map (signature_row key checkpoint) (drop (count + 1) checkpoint.signatures) in
      sym (ap (map (signature_row key checkpoint)) (take-append-drop (count + 1) checkpoint.signatures))
      ∙ map-parts (take (count + 1) checkpoint.signatures) (drop (count + 1) checkpoint.signatures)
      ∙ ap (λ rows. rows ++ rest) (rows-more count signature below is)
      ∙ append_assoc (rows_so_far count) (signature_row key checkpoint signature ∷ []) rest

  module _ (logs : Logs) (bound : ℕ) (before : List AcceptedRow) (lines : HaveLines logs)
      (at : option_map log_key (text_lookup checkpoint.note.origin logs) ≡ Some key) where
    pub sign-none : (rows : RowList) → IsListSoFar logs bound before rows
        → IsListSoFar logs bound (each_once_after before (rows_so_far 0)) rows
    sign-none rows is = is

    pub sign-more : (count number : ℕ) (signature : CheckpointSignature) (old new : RowList)
        → count < length checkpoint.signatures → signature ≡ get_or checkpoint.signatures count signature
        → text_lookup (note_text checkpoint.note) old.notes ≡ Some number → IsCoded signature.raw
        → IsListSoFar logs bound (each_once_after before (rows_so_far count)) old
        → IsPut (signature_row key checkpoint signature) number signature.raw old new true
        → IsListSoFar logs bound (each_once_after before (rows_so_far (count + 1))) new
    sign-more count number signature old new below is numbered coded so_far put =
        let rows = each_once_after before (rows_so_far count) in
        let more = put-more logs bound rows key checkpoint number signature.raw old new lines at numbered so_far coded put
        in
        let whole : each_once_after before (rows_so_far (count + 1))
        ≡ with_row rows (signature_row key checkpoint signature) =
        ap (each_once_after before) (rows-more count signature below is)
        ∙ once-parts before (rows_so_far count) (signature_row key checkpoint signature ∷ []) in
        subst (λ (all : List AcceptedRow). IsListSoFar logs bound all new) (sym whole) more

    pub sign-past : (count number : ℕ) (signature : CheckpointSignature) (old new : RowList)
        → count < length checkpoint.signatures → signature ≡ get_or checkpoint.signatures count signature
        → text_lookup (note_text checkpoint.note) old.notes ≡ Some number → IsCoded signature.raw
        → IsListSoFar logs bound (each_once_after before (rows_so_far count)) old
        → IsPut (signature_row key checkpoint signature) number signature.raw old new false
        → HasAddedRows logs bound (each_once_after before (note_rows key checkpoint)) new false
    sign-past count number signature old new below is numbered coded so_far put =
        let rows = each_once_after before (rows_so_far count) in
        let rest = map (signature_row key checkpoint) (drop (count + 1) checkpoint.signatures) in
        let long = put-past logs bound rows key checkpoint number signature.raw old new lines at numbered so_far coded
        rest put in
        let whole : each_once_after before (note_rows key checkpoint)
        ≡ each_once_after rows (signature_row key checkpoint signature ∷ rest) =
        ap (each_once_after before) (rows-split count signature below is)
        ∙ once-parts before (rows_so_far count) (signature_row key checkpoint signature ∷ rest) in
        subst (λ (all : List AcceptedRow). new.most < length (rows_text all)) (sym whole) long

    pub sign-done : (count : ℕ) (rows : RowList) → length checkpoint.signatures ≤ count
        → IsListSoFar logs bound (each_once_after before (rows_so_far count)) rows
        → HasAddedRows logs bound (each_once_after before (note_rows key checkpoint)) rows true
    sign-done count rows all so_far =
        subst (λ (first : List AcceptedRow). IsListSoFar logs bound (each_once_after before first) rows)
        (rows-whole count all) so_far

-- ---- a checkpoint by its origin

module _ (logs : Logs) (place : ℕ) (before : List AcceptedRow) (checkpoint : SignedCheckpoint) where
  pub known-origin : (key : CosignVerificationKey) (rows : RowList) (added : Bool)
      → option_map log_key (text_lookup checkpoint.note.origin logs) ≡ Some key
      → HasAddedRows logs (place + 1) (each_once_after before (note_rows key checkpoint)) rows added
      → HasAdded logs place before checkpoint rows added
  known-origin key rows added at is =
      subst (λ (found : Option CosignVerificationKey).
      HasAddedRows logs (place + 1) (each_once_after before (rows_under found checkpoint)) rows added) (sym at) is

  pub unknown-origin : (rows : RowList) → place + 1 ≤ 2 ^ 64
      → option_map log_key (text_lookup checkpoint.note.origin logs) ≡ None → IsListSoFar logs place before rows
      → HasAdded logs place before checkpoint rows true
  unknown-origin rows small none so_far =
      subst (λ (found : Option CosignVerificationKey).
      IsListSoFar logs (place + 1) (each_once_after before (rows_under found checkpoint)) rows) (sym none)
      (next-place logs place before rows small so_far)

-- ---- the updates of texts

one-checkpoint : (text : UpdateText) (a b : SignedCheckpoint) → IsCheckpoint text.checkpoint a
    → IsCheckpoint text.checkpoint b → a ≡ b
one-checkpoint text a b is other =
    (let both = sym (checkpoint-only text.checkpoint a is) ∙ checkpoint-only text.checkpoint b other in cc)

pub one-update : (text : UpdateText) (a b : Update) → IsUpdate text a → IsUpdate text b → a ≡ b
one-update text a b is other =
    ap (λ c. update_of c a.old_size a.hashes) (one-checkpoint text a.checkpoint b.checkpoint is.read other.read)
    ∙ ap (λ n. update_of b.checkpoint n a.hashes) (is.old_size ∙ sym other.old_size)
    ∙ ap (update_of b.checkpoint b.old_size) (is.hashes ∙ sym other.hashes)

pub is-update : (text : UpdateText) (checkpoint : SignedCheckpoint) → IsCheckpoint text.checkpoint checkpoint
    → IsUpdate text (update_of checkpoint text.old_size text.hashes)
is-update text checkpoint read = record { read = read; old_size = refl; hashes = refl }

pub one-updates : (texts : List UpdateText) (a b : List Update) → AreUpdates texts a → AreUpdates texts b → a ≡ b
one-updates [] a b is other = is ∙ sym other
one-updates (text ∷ later) a b (inl (unread, is)) (inl (_, other)) = one-updates later a b is other
one-updates (text ∷ later) a b (inl (unread, is)) (inr (update, read, _)) =
    absurd (unread (update.checkpoint, read.read))
one-updates (text ∷ later) a b (inr (update, read, _)) (inl (unread, is)) =
    absurd (unread (update.checkpoint, read.read))
one-updates (text ∷ later) a b (inr (update, read, (rest, split, is))) (inr (other, also, (more, cut, are))) =
    split ∙ ap (λ u. u ∷ rest) (one-update text update other read also)
    ∙ ap (λ us. other ∷ us) (one-updates later rest more is are) ∙ sym cut

-- a text is a checkpoint, or it is none
reading-cases : (text : UpdateText) → HasReading text ⊎ (¬ HasReading text)
reading-cases text = by (checkpoint_of text.checkpoint) refl where
  by : (r : Result SignedCheckpoint CheckpointFault) → checkpoint_of text.checkpoint ≡ r
      → HasReading text ⊎ (¬ HasReading text)
  by (Ok checkpoint) is = inl (checkpoint, checkpoint-found text.checkpoint checkpoint is)
  by (Err fault) is =
      inr (λ has.
      (let both = sym (checkpoint-only text.checkpoint has.0 has.1) ∙ is in cc))

-- so texts have updates
pub some-updates : (texts : List UpdateText) → (updates : List Update) × AreUpdates texts updates
some-updates [] = ([], refl)
some-updates (text ∷ later) =
    let (rest, are) = some-updates later in
    elim (reading-cases text) [
      | inl (checkpoint, read) ↦ (
        update_of checkpoint text.old_size text.hashes ∷ rest,
        inr (update_of checkpoint text.old_size text.hashes, is-update text checkpoint read, (rest, refl, are)),
      )
      | inr unread ↦ (rest, inl (unread, are))
    ]

updates-parts : (first second : List UpdateText) (a b : List Update) → AreUpdates first a → AreUpdates second b
    → AreUpdates (first ++ second) (a ++ b)
updates-parts [] second a b none are = subst (λ (us : List Update). AreUpdates second (us ++ b)) (sym none) are
updates-parts (text ∷ later) second a b (inl (unread, is)) are =
    inl (unread, updates-parts later second a b is are)
updates-parts (text ∷ later) second a b (inr (update, read, (rest, split, is))) are =
    inr (update, read, (rest ++ b, ap (λ us. us ++ b) split, updates-parts later second rest b is are))

rows-parts : (logs : Logs) (a b : List Update)
    → update_rows logs (a ++ b) ≡ update_rows logs a ++ update_rows logs b
rows-parts logs [] b = refl
rows-parts logs (update ∷ later) b =
    ap (λ rest. checkpoint_rows logs update.checkpoint ++ rest) (rows-parts logs later b)
    ∙ sym (append_assoc (checkpoint_rows logs update.checkpoint) (update_rows logs later) (update_rows logs b))

witness-parts : (logs : Logs) (a b : List Update)
    → witness_rows logs (a ++ b) ≡ each_once_after (witness_rows logs a) (update_rows logs b)
witness-parts logs a b =
    ap (each_once_after []) (rows-parts logs a b) ∙ once-parts [] (update_rows logs a) (update_rows logs b)

witness-more : (logs : Logs) (a : List Update) (update : Update)
    → witness_rows logs (a ++ update ∷ []) ≡ each_once_after (witness_rows logs a) (checkpoint_rows logs update.checkpoint)
witness-more logs a update =
    witness-parts logs a (update ∷ [])
    ∙ ap (each_once_after (witness_rows logs a)) (append-nil (checkpoint_rows logs update.checkpoint))

-- ---- text by text

-- the list has the signatures of the updates of the first texts
pub record IsNotesSoFar (logs : Logs) (most : ℕ) (texts : List UpdateText) (place : ℕ) (rows : RowList) : Type 0 where
  pub updates : List Update
  pub are : AreUpdates (take place texts) updates
  pub listed : IsListSoFar logs place (witness_rows logs updates) rows
  pub most_is : rows.most ≡ most

module _ (logs : Logs) (most : ℕ) (texts : List UpdateText) (place : ℕ) (text : UpdateText)
    (below : place < length texts) (is : text ≡ get_or texts place text) where
  more : take (place + 1) texts ≡ take place texts ++ text ∷ []
  more = take_more texts place text below ∙ ap (λ t. take place texts ++ t ∷ []) (sym is)

  pub notes-more : (old new : RowList) (so_far : IsNotesSoFar logs most texts place old) → new.most ≡ old.most
      → HasAddedText logs place (witness_rows logs so_far.updates) text new true
      → IsNotesSoFar logs most texts (place + 1) new
  notes-more old new so_far same (inl (unread, _, listed)) = record {
    updates = so_far.updates ++ [];
    are =
        rw more (updates-parts (take place texts) (text ∷ []) so_far.updates [] so_far.are (inl (unread, refl)));
    listed =
        subst (λ (us : List Update). IsListSoFar logs (place + 1) (witness_rows logs us) new)
        (sym (append-nil so_far.updates)) listed;
    most_is = same ∙ so_far.most_is;
  }
  notes-more old new so_far same (inr (checkpoint, read, added)) =
      let update = update_of checkpoint text.old_size text.hashes in
      record {
        updates = so_far.updates ++ update ∷ [];
        are =
            rw more (updates-parts (take place texts) (text ∷ []) so_far.updates (update ∷ []) so_far.are
            (inr (update, is-update text checkpoint read, ([], refl, refl))));
        listed =
            subst (λ (all : List AcceptedRow). IsListSoFar logs (place + 1) all new)
            (sym (witness-more logs so_far.updates update)) added;
        most_is = same ∙ so_far.most_is;
      }

  pub notes-past : (old new : RowList) (so_far : IsNotesSoFar logs most texts place old) → new.most ≡ old.most
      → HasAddedText logs place (witness_rows logs so_far.updates) text new false
      → IsNotesDocument most logs texts None
  notes-past old new so_far same (inl (unread, is_true, listed)) = absurd (let e : false ≡ true = is_true in cc)
  notes-past old new so_far same (inr (checkpoint, read, long)) =
      let update = update_of checkpoint text.old_size text.hashes in
      let (rest, are) = some-updates (drop (place + 1) texts) in
      let first = updates-parts (take place texts) (text ∷ []) so_far.updates (update ∷ []) so_far.are
      (inr (update, is-update text checkpoint read, ([], refl, refl))) in
      let front : AreUpdates (take (place + 1) texts) (so_far.updates ++ update ∷ []) = rw more first in
      let whole = updates-parts (take (place + 1) texts) (drop (place + 1) texts) (so_far.updates ++ update ∷ []) rest
      front are in
      let (after, begins) = once-begins (witness_rows logs (so_far.updates ++ update ∷ [])) (update_rows logs rest) in
      let shown : witness_rows logs ((so_far.updates ++ update ∷ []) ++ rest)
      ≡ witness_rows logs (so_far.updates ++ update ∷ []) ++ after =
      witness-parts logs (so_far.updates ++ update ∷ []) rest ∙ begins in
      let here : new.most < length (rows_text (witness_rows logs (so_far.updates ++ update ∷ []))) =
      subst (λ (all : List AcceptedRow). new.most < length (rows_text all))
      (sym (witness-more logs so_far.updates update)) long in
      let past : most < length (rows_text (witness_rows logs (so_far.updates ++ update ∷ []))) =
      omega (arith, here, same, so_far.most_is) in (
        (so_far.updates ++ update ∷ []) ++ rest,
        subst (λ (ts : List UpdateText). AreUpdates ts ((so_far.updates ++ update ∷ []) ++ rest))
            (take-append-drop (place + 1) texts) whole,
        subst (λ (all : List AcceptedRow). most < length (rows_text all)) (sym shown)
            (longer most (witness_rows logs (so_far.updates ++ update ∷ [])) after past),
      )

pub notes-none : (logs : Logs) (most : ℕ) (texts : List UpdateText) (rows : RowList) → rows.most ≡ most
    → IsListSoFar logs 0 [] rows → IsNotesSoFar logs most texts 0 rows
notes-none logs most texts rows same listed = record { updates = []; are = refl; listed = listed; most_is = same }

pub notes-whole : (logs : Logs) (most : ℕ) (texts : List UpdateText) (place : ℕ) (rows : RowList) (shown : Data)
    (text : List ℕ) → length texts ≤ place → IsNotesSoFar logs most texts place rows → shown ≡ document_tree rows.list
    → text ≡ compact_text shown → (depth shown ≤ max_depth → document_of text ≡ Ok shown)
    → IsNotesDocument most logs texts (Some text)
notes-whole logs most texts place rows shown text all so_far same written reads =
    let whole = list_of-whole rows.most (witness_rows logs so_far.updates) (document_tree rows.list) shown rows.size text
    so_far.listed.listed same written reads in (
      so_far.updates,
      subst (λ (ts : List UpdateText). AreUpdates ts so_far.updates) (take_all place texts all) so_far.are,
      subst (λ (n : ℕ). IsDocumentOf n (witness_rows logs so_far.updates) (Some text)) so_far.most_is whole,
    )
