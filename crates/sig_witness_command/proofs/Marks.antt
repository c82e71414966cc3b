-- The list of signatures as it is made: which are marked are which are there.
use Rattle.std.proofs.Common.{◌≡◌, ◌<◌, ◌≤◌, ◌↔◌, ◌+◌, ◌^◌, ◌∙◌, ℕ, true, false, List, [], ◌∷◌, ◌++◌, length, inl, inr, Option, Some, None, ap, arith, refl, subst, sym, IsSome}
use Rattle.std.specs.Prelude.{Contains, decimal}
use Rattle.std.specs.Option.{option_map}
use Rattle.std.proofs.lemmas.Fmt.{decimal_injective}
use Rattle.std.proofs.lemmas.List.{append_assoc}
use Rattle.std.proofs.lemmas.List.Elements.{Contains-append_left, Contains-push, Contains-push_cases}
use Rattle.sig_base.specs.Base64.{base64_bytes, base64_text}
use Rattle.sig_base.specs.ByText.{text_lookup, text_put}
use Rattle.sig_base.specs.declared.checker.AcceptedRow.{AcceptedRow}
use Rattle.sig_json.proofs.StableKinds.{is_list-with_last}
use Rattle.sig_json.specs.Tree.{document_tree}
use Rattle.sig_key.specs.declared.verification_key.CosignVerificationKey.{CosignVerificationKey}
use Rattle.sig_rekor.proofs.GraphicTexts.{decimal-graphic, graphic-free}
use Rattle.sig_rekor.specs.NoteText.{note_text}
use Rattle.sig_rekor.specs.declared.checkpoint.SignedCheckpoint.{SignedCheckpoint}
use Rattle.sig_reply.proofs.RowsTexts.{list_of-more, list_of-none, list_of-past}
use Rattle.sig_reply.specs.RowsText.{IsListOf, row_tree, rows_text}
use Rattle.sig_witness.proofs.Entries.{found-all, none-there}
use Rattle.sig_witness.specs.KeptLogs.{IsOriginText, log_key}
use Rattle.sig_witness.specs.declared.kept_log.KeptLog.{KeptLog}
use Rattle.sig_witness_command.proofs.Lookups.{put-cases, put-found, split-same}
use Rattle.sig_witness_command.proofs.DistinctRows.{absent-after, once-begins, there-same}
use Rattle.sig_witness_command.specs.Questions.{each_once_after, key_row, with_row}
use Rattle.sig_witness_command.specs.RowList.{HasRoom, IsCoded, IsEmptyList, IsListSoFar, IsMarked, IsNewRow, IsNumbered, IsPut, IsSameList, pair_of}
use Rattle.sig_witness_command.specs.Start.{HaveLines, Logs}
use Rattle.sig_witness_command.specs.declared.row_list.RowList.{RowList}

-- ---- names

pub pair-same : (m n : ℕ) (a b : List ℕ) → m < 2 ^ 64 → n < 2 ^ 64 → pair_of m a ≡ pair_of n b
    → (m ≡ n) × (base64_text a ≡ base64_text b)
pair-same m n a b small less is =
    let parts = split-same 32 (decimal m) (decimal n) (base64_text a) (base64_text b)
    (graphic-free 32 (decimal m) (omega arith) (decimal-graphic m small))
    (graphic-free 32 (decimal n) (omega arith) (decimal-graphic n less)) is in
    (decimal_injective m n small less parts.0, parts.1)

code-same : (a b : List ℕ) → IsCoded a → IsCoded b → base64_text a ≡ base64_text b → a ≡ b
code-same a b one other is = (let both = sym one ∙ ap base64_bytes is ∙ other in cc)

-- ---- a note has one key

note-origin : (one other : SignedCheckpoint) → IsOriginText one.note.origin → IsOriginText other.note.origin
    → note_text one.note ≡ note_text other.note → one.note.origin ≡ other.note.origin
unfolding note_text
note-origin one other line ends is =
    (split-same 10 one.note.origin other.note.origin _ _ line.line ends.line is).0

key-there : (logs : Logs) (origin : List ℕ) (key : CosignVerificationKey) (found : Option KeptLog)
    → text_lookup origin logs ≡ found → option_map log_key found ≡ Some key
    → (log : KeptLog) × (text_lookup origin logs ≡ Some log)
key-there logs origin key None at is = absurd (let e : ◌≡◌ {A = Option CosignVerificationKey} None (Some key) = is in cc)
key-there logs origin key (Some log) at is = (log, at)

origin-line : (logs : Logs) (origin : List ℕ) (key : CosignVerificationKey) → HaveLines logs
    → option_map log_key (text_lookup origin logs) ≡ Some key → IsOriginText origin
origin-line logs origin key lines is =
    let (log, at) = key-there logs origin key (text_lookup origin logs) refl is in
    found-all (λ (entry : List ℕ × KeptLog). IsOriginText entry.0) origin log logs lines at

one-key : (logs : Logs) (one other : SignedCheckpoint) (key key2 : CosignVerificationKey) → HaveLines logs
    → option_map log_key (text_lookup one.note.origin logs) ≡ Some key
    → option_map log_key (text_lookup other.note.origin logs) ≡ Some key2
    → note_text one.note ≡ note_text other.note → key ≡ key2
one-key logs one other key key2 lines is are same =
    let origin = note-origin one other (origin-line logs one.note.origin key lines is)
    (origin-line logs other.note.origin key2 lines are) same in
    let both : Some key ≡ Some key2 =
    sym is ∙ ap (λ o. option_map log_key (text_lookup o logs)) origin ∙ are in cc

-- ---- the empty list

some-found : {V : Type 0} (o : Option V) (value : V) → o ≡ Some value → IsSome o
some-found {V} None value is = absurd (let f : ◌≡◌ {A = Option V} None (Some value) = is in cc)
some-found (Some other) value is = refl

pub list-none : (logs : Logs) (most : ℕ) (rows : RowList) → IsEmptyList most rows → 2 ≤ most → IsListSoFar logs 0 [] rows
list-none logs most rows is least =
    let same : rows.most ≡ most = is.most_is in
    let zero : rows.size ≡ 0 = is.size in
    record {
      listed =
          subst (λ (size : ℕ). IsListOf rows.most [] (document_tree rows.list) size) (sym zero)
          (list_of-none rows.most (document_tree rows.list) is.list (omega (arith, same, least)));
      small = omega arith;
      below = λ note number at. absurd (let e = ap (text_lookup note) (sym is.notes) ∙ at in cc);
      apart = λ one other number at _. absurd (let e = ap (text_lookup one) (sym is.notes) ∙ at in cc);
      pairs = λ number signature _ some.
          absurd (none-there (text_lookup (pair_of number signature) rows.pairs)
          (ap (text_lookup (pair_of number signature)) is.pairs) some);
      marks = λ checkpoint key signature coded at. (
        λ there. absurd (omega (arith, there.1)),
        λ marked. absurd (none-there (text_lookup (pair_of marked.0 signature) rows.pairs)
            (ap (text_lookup (pair_of marked.0 signature)) is.pairs) marked.2),
      );
    }

-- ---- a note is numbered

some-same : {V : Type 0} (a b : V) → ◌≡◌ {A = Option V} (Some a) (Some b) → a ≡ b
some-same a b is = cc

moved : {V : Type 0} (a b : Option V) → a ≡ b → IsSome b → IsSome a
moved a b is some = subst IsSome (sym is) some

same-listed : (before : List AcceptedRow) (old new : RowList) → IsSameList old new
    → IsListOf old.most before (document_tree old.list) old.size
    → IsListOf new.most before (document_tree new.list) new.size
same-listed before old new same listed = rw (same.most, same.list, same.size) listed

-- what is marked stays so where notes and pairs stay
still : (old new : RowList) (text signature : List ℕ) → new.notes ≡ old.notes → new.pairs ≡ old.pairs
    → IsMarked old text signature → IsMarked new text signature
still old new text signature notes pairs (number, at, some) =
    (number, ap (text_lookup text) notes ∙ at, moved _ _ (ap (text_lookup (pair_of number signature)) pairs) some)

module _ (logs : Logs) (place given : ℕ) (before : List AcceptedRow) (note : List ℕ) (old new : RowList)
    (small : place + 1 ≤ 2 ^ 64) (so_far : IsListSoFar logs place before old) (same : IsSameList old new) where
  number-found : new.notes ≡ old.notes → IsListSoFar logs (place + 1) before new
  number-found notes = record {
    listed = same-listed before old new same so_far.listed;
    small = small;
    below = λ one number at.
        (let low = so_far.below one number (sym (ap (text_lookup one) notes) ∙ at) in omega (arith, low));
    apart = λ one other number at also.
        so_far.apart one other number (sym (ap (text_lookup one) notes) ∙ at) (sym (ap (text_lookup other) notes) ∙ also);
    pairs = λ number signature less some.
        (let low = so_far.pairs number signature less
        (moved _ _ (sym (ap (text_lookup (pair_of number signature)) same.pairs)) some) in omega (arith, low));
    marks = λ checkpoint key signature coded at.
        (let was = so_far.marks checkpoint key signature coded at in (
          λ there. still old new (note_text checkpoint.note) signature notes same.pairs (was.0 there),
          λ marked. was.1 (still new old (note_text checkpoint.note) signature (sym notes) (sym same.pairs) marked),
        ));
  }

  module _ (none : text_lookup note old.notes ≡ None) (notes : new.notes ≡ text_put note place old.notes) where
    looked : (one : List ℕ) → text_lookup one new.notes ≡ text_lookup one (text_put note place old.notes)
    looked one = ap (text_lookup one) notes

    new-below : (one : List ℕ) (number : ℕ) → text_lookup one new.notes ≡ Some number → number < place + 1
    new-below one number at = elim (put-cases one note place old.notes) [
      | inl (_, found) ↦
          let is : place ≡ number = some-same place number (sym found ∙ sym (looked one) ∙ at) in
          omega (arith, is)
      | inr (_, kept) ↦
          let low = so_far.below one number (sym kept ∙ sym (looked one) ∙ at) in
          omega (arith, low)
    ]

    new-apart : (one other : List ℕ) (number : ℕ) → text_lookup one new.notes ≡ Some number
        → text_lookup other new.notes ≡ Some number → one ≡ other
    new-apart one other number at also = elim (put-cases one note place old.notes) [
      | inl (here, found) ↦ elim (put-cases other note place old.notes) [
        | inl (there, _) ↦ here ∙ sym there
        | inr (_, kept) ↦
            let is : place ≡ number = some-same place number (sym found ∙ sym (looked one) ∙ at) in
            let low = so_far.below other number (sym kept ∙ sym (looked other) ∙ also) in
            absurd (omega (arith, is, low))
      ]
      | inr (_, kept) ↦ elim (put-cases other note place old.notes) [
        | inl (_, found) ↦
            let is : place ≡ number = some-same place number (sym found ∙ sym (looked other) ∙ also) in
            let low = so_far.below one number (sym kept ∙ sym (looked one) ∙ at) in
            absurd (omega (arith, is, low))
        | inr (_, also_kept) ↦
            so_far.apart one other number (sym kept ∙ sym (looked one) ∙ at)
            (sym also_kept ∙ sym (looked other) ∙ also)
      ]
    ]

    new-pairs : (number : ℕ) (signature : List ℕ) → number < 2 ^ 64
        → IsSome (text_lookup (pair_of number signature) new.pairs) → number < place
    new-pairs number signature less some =
        so_far.pairs number signature less
        (moved _ _ (sym (ap (text_lookup (pair_of number signature)) same.pairs)) some)

    -- no signature over the new note is marked
    unmarked-old : (text signature : List ℕ) → text ≡ note → IsMarked old text signature → ⊥
    unmarked-old text signature is (number, at, some) =
        (let both : ◌≡◌ {A = Option ℕ} None (Some number) =
        sym none ∙ ap (λ t. text_lookup t old.notes) (sym is) ∙ at in cc)

    unmarked-new : (text signature : List ℕ) → text ≡ note
        → text_lookup text (text_put note place old.notes) ≡ Some place → IsMarked new text signature → ⊥
    unmarked-new text signature is found (number, at, some) =
        let same_number : place ≡ number = some-same place number (sym found ∙ sym (looked text) ∙ at) in
        let low = new-pairs number signature (omega (arith, same_number, small)) some in
        omega (arith, low, same_number)

    marked-there : (text signature : List ℕ)
        → text_lookup text (text_put note place old.notes) ≡ text_lookup text old.notes
        → IsMarked old text signature → IsMarked new text signature
    marked-there text signature kept (number, at, some) = (
      number,
      looked text ∙ kept ∙ at,
      moved _ _ (ap (text_lookup (pair_of number signature)) same.pairs) some,
    )

    marked-back : (text signature : List ℕ)
        → text_lookup text (text_put note place old.notes) ≡ text_lookup text old.notes
        → IsMarked new text signature → IsMarked old text signature
    marked-back text signature kept (number, at, some) = (
      number,
      sym kept ∙ sym (looked text) ∙ at,
      moved _ _ (sym (ap (text_lookup (pair_of number signature)) same.pairs)) some,
    )

    new-marks : (checkpoint : SignedCheckpoint) (key : CosignVerificationKey) (signature : List ℕ) → IsCoded signature
        → option_map log_key (text_lookup checkpoint.note.origin logs) ≡ Some key
        → Contains before (key_row key (note_text checkpoint.note) signature)
        ↔ IsMarked new (note_text checkpoint.note) signature
    new-marks checkpoint key signature coded at =
        let text = note_text checkpoint.note in
        let was = so_far.marks checkpoint key signature coded at in
        elim (put-cases text note place old.notes) [
          | inl (is, found) ↦ (
            λ there. absurd (unmarked-old text signature is (was.0 there)),
            λ marked. absurd (unmarked-new text signature is found marked),
          )
          | inr (_, kept) ↦ (
            λ there. marked-there text signature kept (was.0 there),
            λ marked. was.1 (marked-back text signature kept marked),
          )
        ]

    number-new : IsListSoFar logs (place + 1) before new
    number-new = record {
      listed = same-listed before old new same so_far.listed;
      small = small;
      below = new-below;
      apart = new-apart;
      pairs = λ number signature less some. (let low = new-pairs number signature less some in omega (arith, low));
      marks = new-marks;
    }

pub numbered : (logs : Logs) (place given : ℕ) (before : List AcceptedRow) (note : List ℕ) (old new : RowList)
    → place + 1 ≤ 2 ^ 64 → IsListSoFar logs place before old → IsNumbered old note place given new
    → IsListSoFar logs (place + 1) before new × (text_lookup note new.notes ≡ Some given)
numbered logs place given before note old new small so_far is = elim is.cases [
  | inl (at, notes) ↦
      (number-found logs place given before note old new small so_far is.same notes, ap (text_lookup note) notes ∙ at)
  | inr (none, which, notes) ↦ (
    number-new logs place given before note old new small so_far is.same none notes,
    ap (text_lookup note) notes ∙ put-found note place old.notes ∙ ap Some (sym which),
  )
]

-- where nothing is added
pub next-place : (logs : Logs) (place : ℕ) (before : List AcceptedRow) (rows : RowList) → place + 1 ≤ 2 ^ 64
    → IsListSoFar logs place before rows → IsListSoFar logs (place + 1) before rows
next-place logs place before rows small so_far =
    number-found logs place 0 before [] rows rows small so_far
    (record { list = refl; size = refl; most = refl; pairs = refl }) refl

-- ---- a signature is put

module _ (logs : Logs) (bound : ℕ) (before : List AcceptedRow) (key : CosignVerificationKey)
    (checkpoint : SignedCheckpoint) (number : ℕ) (signature : List ℕ) (old new : RowList) (lines : HaveLines logs)
    (at : option_map log_key (text_lookup checkpoint.note.origin logs) ≡ Some key)
    (has_number : text_lookup (note_text checkpoint.note) old.notes ≡ Some number)
    (so_far : IsListSoFar logs bound before old) (coded : IsCoded signature) where
  abbrev pub row : AcceptedRow
  row = key_row key (note_text checkpoint.note) signature

  low : number < bound
  low = so_far.below (note_text checkpoint.note) number has_number

  listed-already : IsSome (text_lookup (pair_of number signature) old.pairs) → Contains before row
  listed-already some = (so_far.marks checkpoint key signature coded at).1 (number, has_number, some)

  not-listed : text_lookup (pair_of number signature) old.pairs ≡ None → ¬ Contains before row
  not-listed none there =
      let (other, also, some) = (so_far.marks checkpoint key signature coded at).0 there in
      let is : number ≡ other = some-same number other (sym has_number ∙ also) in
      none-there (text_lookup (pair_of number signature) old.pairs) none
      (subst (λ (n : ℕ). IsSome (text_lookup (pair_of n signature) old.pairs)) (sym is) some)

  module _ (is : IsNewRow row number signature old new) where
    noted : (text : List ℕ) → text_lookup text new.notes ≡ text_lookup text old.notes
    noted text = ap (text_lookup text) is.notes

    paired : (name : List ℕ)
        → text_lookup name new.pairs ≡ text_lookup name (text_put (pair_of number signature) number old.pairs)
    paired name = ap (text_lookup name) is.pairs

    put-pairs : (other : ℕ) (raw : List ℕ) → other < 2 ^ 64
        → IsSome (text_lookup (pair_of other raw) new.pairs) → other < bound
    put-pairs other raw less some =
        elim (put-cases (pair_of other raw) (pair_of number signature) number old.pairs) [
          | inl (same, _) ↦
              let parts = pair-same other number raw signature less (omega (arith, low, so_far.small)) same in
              omega (arith, parts.0, low)
          | inr (_, kept) ↦ so_far.pairs other raw less (moved _ _ (sym kept ∙ sym (paired (pair_of other raw))) some)
        ]

    still-marked : (text raw : List ℕ) → IsMarked old text raw → IsMarked new text raw
    still-marked text raw (other, found, some) = (
      other,
      noted text ∙ found,
      elim (put-cases (pair_of other raw) (pair_of number signature) number old.pairs) [
        | inl (_, here) ↦ some-found _ number (paired (pair_of other raw) ∙ here)
        | inr (_, kept) ↦ moved _ _ (paired (pair_of other raw) ∙ kept) some
      ],
    )

    now-marked : IsMarked new (note_text checkpoint.note) signature
    now-marked = (
      number,
      noted (note_text checkpoint.note) ∙ has_number,
      some-found _ number
          (paired (pair_of number signature) ∙ put-found (pair_of number signature) number old.pairs),
    )

    row-marked : (text raw : List ℕ) (other_key : CosignVerificationKey) → row ≡ key_row other_key text raw
        → IsMarked new text raw
    row-marked text raw other_key same =
        let note : note_text checkpoint.note ≡ text = ap (λ (r : AcceptedRow). r.message) same in
        let sign : signature ≡ raw = ap (λ (r : AcceptedRow). r.signature) same in
        subst (λ (t : List ℕ). IsMarked new t raw) note
        (subst (λ (s : List ℕ). IsMarked new (note_text checkpoint.note) s) sign now-marked)

    there-again : (one : SignedCheckpoint) (one_key : CosignVerificationKey) (raw : List ℕ) → IsCoded raw
        → option_map log_key (text_lookup one.note.origin logs) ≡ Some one_key → IsMarked new (note_text one.note) raw
        → Contains (before ++ row ∷ []) (key_row one_key (note_text one.note) raw)
    there-again one its_key raw also_coded also_at (other, found, some) =
        let was : text_lookup (note_text one.note) old.notes ≡ Some other = sym (noted (note_text one.note)) ∙ found in
        let below = so_far.below (note_text one.note) other was in
        elim (put-cases (pair_of other raw) (pair_of number signature) number old.pairs) [
          | inl (same, _) ↦
              let parts = pair-same other number raw signature (omega (arith, below, so_far.small))
              (omega (arith, low, so_far.small)) same in
              let note : note_text one.note ≡ note_text checkpoint.note =
              so_far.apart (note_text one.note) (note_text checkpoint.note) number
              (was ∙ ap Some parts.0) has_number in
              let sign : raw ≡ signature = code-same raw signature also_coded coded parts.1 in
              let keys : its_key ≡ key = one-key logs one checkpoint its_key key lines also_at at note in
              let whole : key_row its_key (note_text one.note) raw ≡ row =
              ap (λ k. key_row k (note_text one.note) raw) keys ∙ ap (λ t. key_row key t raw) note
              ∙ ap (key_row key (note_text checkpoint.note)) sign in
              subst (Contains (before ++ row ∷ [])) (sym whole) (Contains-push before row)
          | inr (_, kept) ↦
              Contains-append_left before (row ∷ []) (key_row its_key (note_text one.note) raw)
              ((so_far.marks one its_key raw also_coded also_at).1
              (other, was, moved _ _ (sym kept ∙ sym (paired (pair_of other raw))) some))
        ]

    put-marks : (one : SignedCheckpoint) (its_key : CosignVerificationKey) (raw : List ℕ) → IsCoded raw
        → option_map log_key (text_lookup one.note.origin logs) ≡ Some its_key
        → Contains (before ++ row ∷ []) (key_row its_key (note_text one.note) raw)
        ↔ IsMarked new (note_text one.note) raw
    put-marks one its_key raw also_coded also_at = (
      λ there. elim (Contains-push_cases before row (key_row its_key (note_text one.note) raw) there) [
        | inl was ↦
            still-marked (note_text one.note) raw ((so_far.marks one its_key raw also_coded also_at).0 was)
        | inr same ↦ row-marked (note_text one.note) raw its_key same
      ],
      there-again one its_key raw also_coded also_at,
    )

    put-new : IsListSoFar logs bound (before ++ row ∷ []) new
    put-new = record {
      listed =
          rw (is.most) (list_of-more old.most before row (document_tree old.list) (document_tree new.list) old.size
          new.size so_far.listed is.back is.adds);
      small = so_far.small;
      below = λ text other found. so_far.below text other (sym (noted text) ∙ found);
      apart = λ one other its found also.
          so_far.apart one other its (sym (noted one) ∙ found) (sym (noted other) ∙ also);
      pairs = put-pairs;
      marks = put-marks;
    }

  pub put-more : IsPut row number signature old new true → IsListSoFar logs bound (with_row before row) new
  put-more (inl (some, same)) =
      subst (λ (r : RowList). IsListSoFar logs bound (with_row before row) r) (sym same)
      (subst (λ (all : List AcceptedRow). IsListSoFar logs bound all old)
      (sym (there-same before row (listed-already some))) so_far)
  put-more (inr is) =
      subst (λ (all : List AcceptedRow). IsListSoFar logs bound all new)
      (sym (absent-after before row (not-listed is.unlisted))) (put-new is)

  pub put-past : (rest : List AcceptedRow) → IsPut row number signature old new false
      → new.most < length (rows_text (each_once_after before (row ∷ rest)))
  put-past rest is =
      let begins = once-begins (with_row before row) rest in
      let after = absent-after before row (not-listed is.unlisted) in
      let whole : each_once_after before (row ∷ rest) ≡ before ++ row ∷ begins.0 =
      begins.1 ∙ ap (λ front. front ++ begins.0) after ∙ append_assoc before (row ∷ []) begins.0 in
      let long = list_of-past old.most before row begins.0 (document_tree old.list) (document_tree new.list) old.size
      so_far.listed is.past in
      let most : old.most < length (rows_text (each_once_after before (row ∷ rest))) =
      subst (λ (all : List AcceptedRow). old.most < length (rows_text all)) (sym whole) long in
      omega (arith, most, is.most)

-- what a signature was put in has room
pub put-room : (entry : AcceptedRow) (number : ℕ) (signature : List ℕ) (old new : RowList) → HasRoom old
    → IsPut entry number signature old new true → HasRoom new
put-room entry number signature old new room (inl (_, same)) = subst HasRoom (sym same) room
put-room entry number signature old new room (inr is) =
    let (_, below, made) = is.adds in (
      rw made (is_list-with_last (row_tree entry) (document_tree old.list) room.0),
      omega (arith, below, is.most),
    )

-- and what stays
pub put-notes : (entry : AcceptedRow) (number : ℕ) (signature : List ℕ) (old new : RowList)
    → IsPut entry number signature old new true → new.notes ≡ old.notes
put-notes entry number signature old new (inl (_, same)) = ap (λ (r : RowList). r.notes) same
put-notes entry number signature old new (inr is) = is.notes

pub put-most : (entry : AcceptedRow) (number : ℕ) (signature : List ℕ) (old new : RowList)
    → IsPut entry number signature old new true → new.most ≡ old.most
put-most entry number signature old new (inl (_, same)) = ap (λ (r : RowList). r.most) same
put-most entry number signature old new (inr is) = is.most
