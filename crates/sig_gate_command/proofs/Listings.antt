-- The list of signatures as it is made: which are found are which are there.
use Rattle.std.proofs.Common.{◌≡◌, ◌<◌, ◌≤◌, ◌+◌, ◌∙◌, ℕ, true, false, List, [], ◌∷◌, ◌++◌, length, take, drop, get_or, inl, inr}
use Rattle.std.proofs.Common.{Option, Some, None, Ok, ap, arith, refl, subst, sym, IsSome}
use Rattle.std.proofs.lemmas.List.{append_assoc, take-append-drop, take_all, take_more}
use Rattle.std.proofs.lemmas.List.Elements.{Contains-append_left, Contains-append_right, Contains-push, Contains-push_cases}
use Rattle.std.specs.Prelude.{Contains}
use Rattle.sig_base.proofs.ResultSteps.{ok_is}
use Rattle.sig_base.specs.ByText.{text_lookup, text_put}
use Rattle.sig_base.specs.declared.checker.AcceptedRow.{AcceptedRow}
use Rattle.sig_gate_command.proofs.AskedRows.{bytes-joined, text-of-one}
use Rattle.sig_gate_command.proofs.DistinctRows.{once-again, once-new, once-same}
use Rattle.sig_gate_command.specs.Questions.{each_once, most_asked}
use Rattle.sig_gate_command.specs.RowList.{HasRoom, IsEmptyList, IsListSoFar, IsListed, IsNewRow, IsPut, IsSpent, row_name}
use Rattle.sig_gate_command.specs.declared.row_list.RowList.{RowList}
use Rattle.sig_json.proofs.StableKinds.{is_list-with_last}
use Rattle.sig_json.specs.Data.{Data, depth}
use Rattle.sig_json.specs.Document.{document_of}
use Rattle.sig_json.specs.Member.{list_each}
use Rattle.sig_json.specs.Read.{max_depth}
use Rattle.sig_json.specs.Tree.{document_tree}
use Rattle.sig_json.specs.Written.{compact_text}
use Rattle.sig_questions.proofs.RowLaws.{empty_has}
use Rattle.sig_questions.specs.Rows.{bytes_of_rows, row_bytes}
use Rattle.sig_reply.proofs.RowsTexts.{list_of-more, list_of-none, list_of-past, list_of-whole}
use Rattle.sig_reply.specs.RowsText.{AddsRow, IsDocumentOf, IsListOf, IsReadBack, IsRowReadBack, row_tree, rows_text, rows_tree}
use Rattle.sig_request.specs.Row.{row_of}
use Rattle.sig_witness.proofs.Entries.{none-there}
use Rattle.sig_witness_command.proofs.DistinctRows.{here, once-begins, once-parts}
use Rattle.sig_witness_command.proofs.Lookups.{put-cases, put-found}

-- ---- names

one-row : (a b : AcceptedRow) → ◌≡◌ {A = Option (List AcceptedRow)} (Some (a ∷ [])) (Some (b ∷ [])) → a ≡ b
one-row a b is = cc

-- what is read back as one row alone is one row's name
name-same : (a b : AcceptedRow) → IsReadBack (a ∷ []) → IsReadBack (b ∷ []) → row_name a ≡ row_name b → a ≡ b
name-same a b back other is =
    let tree : rows_tree (a ∷ []) ≡ rows_tree (b ∷ []) =
    ok_is (rows_tree (a ∷ [])) (rows_tree (b ∷ [])) (sym back.0 ∙ ap document_of is ∙ other.0) in
    one-row a b (sym back.1 ∙ ap (list_each row_of) tree ∙ other.1)

some-found : {V : Type 0} (o : Option V) (value : V) → o ≡ Some value → IsSome o
some-found {V} None value is = absurd (let f : ◌≡◌ {A = Option V} None (Some value) = is in cc)
some-found (Some other) value is = refl

moved : {V : Type 0} (a b : Option V) → a ≡ b → IsSome b → IsSome a
moved a b is some = subst IsSome (sym is) some

-- ---- the empty list

pub list-none : (most : ℕ) (rows : RowList) → IsEmptyList most rows → 2 ≤ most → IsListSoFar [] rows
list-none most rows is least =
    let same : rows.most ≡ most = is.most_is in
    record {
      listed =
          subst (λ (size : ℕ). IsListOf rows.most [] (document_tree rows.list) size) (sym is.size)
          (list_of-none rows.most (document_tree rows.list) is.list (omega (arith, same, least)));
      spent = omega (arith, is.left);
      found = λ row _. (
        λ there. absurd (empty_has row there),
        λ some. absurd (none-there (text_lookup (row_name row) rows.names) (ap (text_lookup (row_name row)) is.names) some),
      );
    }

-- ---- a signature is put

spent-more : (before : List AcceptedRow) (row : AcceptedRow) (old new : RowList)
    → old.left + bytes_of_rows before ≡ most_asked → IsSpent row old new
    → new.left + bytes_of_rows (before ++ row ∷ []) ≡ most_asked
spent-more before row old new was is =
    let one : bytes_of_rows (row ∷ []) ≡ row_bytes row = omega arith in
    omega (arith, was, is.left, bytes-joined before (row ∷ []), one)

module _ (before : List AcceptedRow) (row : AcceptedRow) (old new : RowList) (so_far : IsListSoFar before old)
    (spent : IsSpent row old new) where
  put-listed : IsListed row old new → IsListSoFar (before ++ row ∷ []) new
  put-listed is =
      let there : Contains before row = (so_far.found row is.back).1 is.found in
      record {
        listed =
            subst (λ (all : List AcceptedRow). IsListOf new.most all (document_tree new.list) new.size)
            (sym (once-again before row there)) (rw (spent.most, is.list, is.size) so_far.listed);
        spent = spent-more before row old new so_far.spent spent;
        found = λ other back. (
          λ inside. elim (Contains-push_cases before row other inside) [
            | inl was ↦ moved _ _ (ap (text_lookup (row_name other)) is.names) ((so_far.found other back).0 was)
            | inr same ↦
                moved _ _ (ap (text_lookup (row_name other)) is.names)
                (subst (λ (r : AcceptedRow). IsSome (text_lookup (row_name r) old.names)) same is.found)
          ],
          λ some. Contains-append_left before (row ∷ []) other
              ((so_far.found other back).1 (moved _ _ (sym (ap (text_lookup (row_name other)) is.names)) some)),
        );
      }

  module _ (is : IsNewRow row old new) where
    looked : (name : List ℕ)
        → text_lookup name new.names ≡ text_lookup name (text_put (row_name row) new.size old.names)
    looked name = ap (text_lookup name) is.names

    absent : ¬ Contains before row
    absent there = none-there (text_lookup (row_name row) old.names) is.unlisted ((so_far.found row is.back).0 there)

    now-found : IsSome (text_lookup (row_name row) new.names)
    now-found = some-found _ new.size (looked (row_name row) ∙ put-found (row_name row) new.size old.names)

    still-found : (other : AcceptedRow) → IsSome (text_lookup (row_name other) old.names)
        → IsSome (text_lookup (row_name other) new.names)
    still-found other some = elim (put-cases (row_name other) (row_name row) new.size old.names) [
      | inl (_, found) ↦ some-found _ new.size (looked (row_name other) ∙ found)
      | inr (_, kept) ↦ moved _ _ (looked (row_name other) ∙ kept) some
    ]

    there-again : (other : AcceptedRow) → IsReadBack (other ∷ []) → IsSome (text_lookup (row_name other) new.names)
        → Contains (before ++ row ∷ []) other
    there-again other back some = elim (put-cases (row_name other) (row_name row) new.size old.names) [
      | inl (same, _) ↦
          subst (Contains (before ++ row ∷ [])) (sym (name-same other row back is.back same)) (Contains-push before row)
      | inr (_, kept) ↦
          Contains-append_left before (row ∷ []) other
          ((so_far.found other back).1 (moved _ _ (sym kept ∙ sym (looked (row_name other))) some))
    ]

    put-new : IsListSoFar (before ++ row ∷ []) new
    put-new = record {
      listed =
          subst (λ (all : List AcceptedRow). IsListOf new.most all (document_tree new.list) new.size)
          (sym (once-new before row absent))
          (rw spent.most (list_of-more old.most (each_once before) row (document_tree old.list) (document_tree new.list)
          old.size new.size so_far.listed is.read is.adds));
      spent = spent-more before row old new so_far.spent spent;
      found = λ other back. (
        λ inside. elim (Contains-push_cases before row other inside) [
          | inl was ↦ still-found other ((so_far.found other back).0 was)
          | inr same ↦ subst (λ (r : AcceptedRow). IsSome (text_lookup (row_name r) new.names)) same now-found
        ],
        there-again other back,
      );
    }

pub put-more : (before : List AcceptedRow) (row : AcceptedRow) (old new : RowList) → IsListSoFar before old
    → IsPut row old new true → IsListSoFar (before ++ row ∷ []) new
put-more before row old new so_far (spent, inl is) = put-listed before row old new so_far spent is
put-more before row old new so_far (spent, inr is) = put-new before row old new so_far spent is

-- a signature has no room: no list has it that begins with those before it
pub put-past : (before : List AcceptedRow) (row : AcceptedRow) (rest : List AcceptedRow) (old new : RowList)
    → IsListSoFar before old → IsPut row old new false
    → new.most < length (rows_text (each_once (before ++ row ∷ rest)))
put-past before row rest old new so_far (spent, inl long) =
    let inside : Contains (before ++ row ∷ rest) row =
    Contains-append_right before (row ∷ rest) row (here row rest) in
    let least = text-of-one (each_once (before ++ row ∷ rest)) row ((once-same (before ++ row ∷ rest) row).1 inside) in
    omega (arith, long, least, spent.most)
put-past before row rest old new so_far (spent, inr (back, unlisted, past)) =
    let absent : ¬ Contains before row =
    λ there. none-there (text_lookup (row_name row) old.names) unlisted ((so_far.found row back).0 there) in
    let begins = once-begins (each_once (before ++ row ∷ [])) rest in
    let parts : before ++ row ∷ rest ≡ (before ++ row ∷ []) ++ rest = sym (append_assoc before (row ∷ []) rest) in
    let whole : each_once (before ++ row ∷ rest) ≡ each_once before ++ row ∷ begins.0 =
    ap each_once parts ∙ once-parts [] (before ++ row ∷ []) rest ∙ begins.1
    ∙ ap (λ front. front ++ begins.0) (once-new before row absent) ∙ append_assoc (each_once before) (row ∷ []) begins.0 in
    let long = list_of-past old.most (each_once before) row begins.0 (document_tree old.list) (document_tree new.list)
    old.size so_far.listed past in
    let most : old.most < length (rows_text (each_once (before ++ row ∷ rest))) =
    subst (λ (all : List AcceptedRow). old.most < length (rows_text all)) (sym whole) long in
    omega (arith, most, spent.most)

-- what a signature was put in has room
pub put-room : (row : AcceptedRow) (old new : RowList) → HasRoom old → IsPut row old new true → HasRoom new
put-room row old new room (spent, inl is) = record {
  list = rw is.list room.list;
  room = omega (arith, room.room, is.size, spent.most);
  least = omega (arith, room.least, spent.most);
}
put-room row old new room (spent, inr is) =
    let (_, below, made) = is.adds in
    record {
      list = rw made (is_list-with_last (row_tree row) (document_tree old.list) room.list);
      room = omega (arith, below, spent.most);
      least = omega (arith, room.least, spent.most);
    }

-- the list of a signature alone
pub alone-made : (most : ℕ) (row : AcceptedRow) (empty list shown : Data) (sum : ℕ) (text : List ℕ)
    → empty ≡ rows_tree [] → 2 ≤ most → IsRowReadBack row → AddsRow most empty list 0 row (Some sum) → shown ≡ list
    → text ≡ compact_text shown → (depth shown ≤ max_depth → document_of text ≡ Ok shown)
    → IsDocumentOf most (row ∷ []) (Some text)
alone-made most row empty list shown sum text none least back added same written reads =
    list_of-whole most (row ∷ []) list shown sum text
    (list_of-more most [] row empty list 0 sum (list_of-none most empty none least) back added) same written reads

-- ---- rows one after another

module _ (before rows : List AcceptedRow) (place : ℕ) (row : AcceptedRow) (below : place < length rows)
    (is : row ≡ get_or rows place row) where
  first-more : take (place + 1) rows ≡ take place rows ++ row ∷ []
  first-more = take_more rows place row below ∙ ap (λ r. take place rows ++ r ∷ []) (sym is)

  pub rows-more : (old new : RowList) → IsListSoFar (before ++ take place rows) old → IsPut row old new true
      → IsListSoFar (before ++ take (place + 1) rows) new
  rows-more old new so_far put =
      subst (λ (all : List AcceptedRow). IsListSoFar all new)
      (append_assoc before (take place rows) (row ∷ []) ∙ ap (λ all. before ++ all) (sym first-more))
      (put-more (before ++ take place rows) row old new so_far put)

  pub rows-past : (old new : RowList) → IsListSoFar (before ++ take place rows) old → IsPut row old new false
      → new.most < length (rows_text (each_once (before ++ rows)))
  rows-past old new so_far put =
      let rest = drop (place + 1) rows in
      let split : rows ≡ take place rows ++ row ∷ rest =
      sym (take-append-drop (place + 1) rows) ∙ ap (λ front. front ++ rest) first-more
      ∙ append_assoc (take place rows) (row ∷ []) rest in
      let whole : before ++ rows ≡ (before ++ take place rows) ++ row ∷ rest =
      ap (λ all. before ++ all) split ∙ sym (append_assoc before (take place rows) (row ∷ rest)) in
      subst (λ (all : List AcceptedRow). new.most < length (rows_text (each_once all))) (sym whole)
      (put-past (before ++ take place rows) row rest old new so_far put)

  -- so many bytes are left for the others
  pub left-more : (left old new : ℕ) → old + bytes_of_rows (take place rows) ≡ left → new + row_bytes row ≡ old
      → new + bytes_of_rows (take (place + 1) rows) ≡ left
  left-more left old new was is_spent =
      let one : bytes_of_rows (row ∷ []) ≡ row_bytes row = omega arith in
      let all = ap bytes_of_rows first-more in
      omega (arith, was, is_spent, all, bytes-joined (take place rows) (row ∷ []), one)

  pub left-enough : (left old : ℕ) → bytes_of_rows rows ≤ left → old + bytes_of_rows (take place rows) ≡ left
      → row_bytes row ≤ old
  left-enough left old enough was =
      let one : bytes_of_rows (row ∷ []) ≡ row_bytes row = omega arith in
      let all = ap bytes_of_rows first-more in
      let parts = ap bytes_of_rows (take-append-drop (place + 1) rows) in
      omega (
        arith,
        enough,
        was,
        all,
        parts,
        one,
        bytes-joined (take place rows) (row ∷ []),
        bytes-joined (take (place + 1) rows) (drop (place + 1) rows),
      )

pub rows-whole : (before rows : List AcceptedRow) (place : ℕ) (list : RowList) → length rows ≤ place
    → IsListSoFar (before ++ take place rows) list → IsListSoFar (before ++ rows) list
rows-whole before rows place list all so_far =
    subst (λ (first : List AcceptedRow). IsListSoFar (before ++ first) list) (take_all place rows all) so_far
