-- The rows of one certificate's signature stand side by side in the order of rows, and two searches find where.
use Rattle.std.proofs.Common.{◌≡◌, ℕ, ◌+◌, ◌-◌, ◌<◌, ◌≤◌, List, get_or, length, map, drop, true, false}
use Rattle.std.proofs.Common.{Option, None, Some, refl, sym, ap, subst, ◌∙◌, arith, slice_get, ⊎_elim}
use Rattle.std.specs.Prelude.{Contains}
use Rattle.std.specs.List.{slice_range}
use Rattle.std.specs.declared.cmp.Ordering.{Ordering}
use Rattle.std.specs.declared.cmp.Ordering.TheVariants.{Less, Equal, Greater}
use Rattle.std.specs.Cmp.Lexicographic.{options_total}
use Rattle.std.specs.List.Sorted.{IsNonDecreasingBy, IsPartitionedBy, IsPartitionPoint}
use Rattle.std.specs.Option.{option_cmp}
use Rattle.std.specs.Ordering.{is_lt, is_le, ordering_index, ordering_then}
use Rattle.std.proofs.lemmas.Bool.{cases_lt}
use Rattle.std.proofs.lemmas.Cmp.{tied_itself}
use Rattle.std.proofs.lemmas.List.{get_or-drop, get_or-take, get_or-map, length-take-le, length-drop, length-map}
use Rattle.std.proofs.lemmas.List.Elements.{Contains-get_or}
use Rattle.std.proofs.lemmas.List.Sorted.{searchable_from_sorted}
use Rattle.std.proofs.lemmas.Option.{slice_get_within, get_or_from_slice_get, slice_get-get_or}
use Rattle.sig_base.specs.Checker.{accepted, key_of, key_at, AreKeysOf}
use Rattle.sig_base.specs.RowOrder.{leading_of, leading, ending_order, key_ending, group_order, row_order}
use Rattle.sig_base.specs.RowOrder.{group_at, IsOrderOf, IsGroupOf}
use Rattle.sig_base.specs.declared.checker.AcceptedRow.{AcceptedRow}
use Rattle.sig_base.specs.declared.checker.Operation.TheVariants.{Certificate}
use Rattle.sig_base.proofs.AcceptedRows.{accepted-rows, as_row}
use Rattle.sig_base.proofs.RowOrders.{group_order_total, IsOneGroup, one_group}

-- a part that comes first decides
not_less_first : (o p : Ordering) → is_lt (ordering_then o p) ≡ false → is_lt o ≡ false
not_less_first Less p e = absurd cc
not_less_first Equal p e = refl
not_less_first Greater p e = refl

option_not_less : (a b : Option AcceptedRow) → is_lt (option_cmp row_order a b) ≡ false
    → is_lt (option_cmp group_order a b) ≡ false
unfolding row_order
option_not_less None None e = e
option_not_less None (Some b) e = e
option_not_less (Some a) None e = e
option_not_less (Some a) (Some b) e = not_less_first (group_order a b) _ e

-- where an answer passes a test, each that is not above it does
lt_below : (o p : Ordering) → ordering_index o ≤ ordering_index p → is_lt p ≡ true → is_lt o ≡ true
lt_below Less p le e = refl
lt_below Equal Less le e = absurd (omega arith)
lt_below Equal Equal le e = absurd cc
lt_below Equal Greater le e = absurd cc
lt_below Greater Less le e = absurd (omega arith)
lt_below Greater Equal le e = absurd cc
lt_below Greater Greater le e = absurd cc

le_below : (o p : Ordering) → ordering_index o ≤ ordering_index p → is_le p ≡ true → is_le o ≡ true
le_below Less p le e = refl
le_below Equal p le e = refl
le_below Greater Less le e = absurd (omega arith)
le_below Greater Equal le e = absurd (omega arith)
le_below Greater Greater le e = absurd cc

-- an answer between the two places ties; none is before the first and after the second
between : (o : Ordering) → is_lt o ≡ false → is_le o ≡ true → o ≡ Equal
between Less low high = absurd cc
between Equal low high = refl
between Greater low high = absurd cc

apart : (o : Ordering) → is_lt o ≡ true → is_le o ≡ false → ⊥
apart Less low high = absurd cc
apart Equal low high = absurd cc
apart Greater low high = absurd cc

pub length_range : (xs : List ℕ) (low high : ℕ) → low ≤ high → high ≤ length xs
    → length (slice_range xs low high) ≡ high - low
length_range xs low high le within =
    let rest : length (drop low xs) ≡ length xs - low = length-drop low xs in
    length-take-le (high - low) (drop low xs) (omega (arith, rest))

pub get_range : (xs : List ℕ) (low high k d : ℕ) → low + k < high
    → get_or (slice_range xs low high) k d ≡ get_or xs (low + k) d
get_range xs low high k d below =
    get_or-take (high - low) (drop low xs) k d (omega arith) ∙ get_or-drop low xs k d

module _ (rows : List AcceptedRow) (row : AcceptedRow) (order : List ℕ) where
  -- what the searches ask of each index
  abbrev pub asked : ℕ → Ordering
  asked index = group_at rows index row

  rises : IsOrderOf rows order → IsNonDecreasingBy (λ index. ordering_index (asked index)) order
  rises of =
      searchable_from_sorted (options_total group_order_total) (λ index. slice_get rows index) order (Some row)
      (λ k d low high. option_not_less _ _ (of.ascends k d low high))

  pub parted_lt : IsOrderOf rows order → IsPartitionedBy (λ index. is_lt (asked index)) order
  parted_lt of i j d le lt e = lt_below _ _ (rises of i j d le lt) e

  pub parted_le : IsOrderOf rows order → IsPartitionedBy (λ index. is_le (asked index)) order
  parted_le of i j d le lt e = le_below _ _ (rises of i j d le lt) e

  abbrev pub IsStart : ℕ → Type 0
  IsStart = IsPartitionPoint (λ index. is_lt (asked index) ≡ true) (λ index. is_lt (asked index) ≡ false) order

  abbrev pub IsEnd : ℕ → Type 0
  IsEnd = IsPartitionPoint (λ index. is_le (asked index) ≡ true) (λ index. is_le (asked index) ≡ false) order

  pub start_le : (first end : ℕ) → first ≤ length order → IsStart first → IsEnd end → first ≤ end
  start_le first end within starts ends = ⊎_elim
      (λ crossed. absurd (apart (asked (get_or order end 0)) (starts.0 end 0 (omega arith) crossed)
      (ends.1 end 0 (omega arith) (omega arith))))
      (λ le. le) (cases_lt end first)

  pub group_range : (first end : ℕ) → first ≤ length order → end ≤ length order → IsStart first → IsEnd end
      → IsGroupOf rows order row (slice_range order first end)
  group_range first end first_in end_in starts ends index = (into, back)
    where
      le : first ≤ end
      le = start_le first end first_in starts ends

      size : length (slice_range order first end) ≡ end - first
      size = length_range order first end le end_in

      into : Contains (slice_range order first end) index → Contains order index × (asked index ≡ Equal)
      into held =
          let within : first + held.0 < end = omega (arith, simp size at held.1) in
          let at : get_or order (first + held.0) index ≡ index =
          sym (get_range order first end held.0 index within) ∙ held.2 in
          let tied : asked (get_or order (first + held.0) index) ≡ Equal =
          between _ (starts.1 (first + held.0) index (omega arith) (omega arith))
          (ends.0 (first + held.0) index (omega arith) within) in
          ((first + held.0, omega arith, at), subst (λ i. asked i ≡ Equal) at tied)

      back : Contains order index × (asked index ≡ Equal) → Contains (slice_range order first end) index
      back (held, ties) =
          let tied : asked (get_or order held.0 index) ≡ Equal = subst (λ i. asked i ≡ Equal) (sym held.2) ties in
          let low : first ≤ held.0 = ⊎_elim
          (λ before. let less = starts.0 held.0 index (omega arith) before in absurd (cc (less, tied)))
          (λ le. le) (cases_lt held.0 first) in
          let high : held.0 < end = ⊎_elim (λ lt. lt)
          (λ after. let more = ends.1 held.0 index after held.1 in absurd (cc (more, tied)))
          (cases_lt held.0 end) in
          let sum : first + (held.0 - first) ≡ held.0 = omega arith in (
            held.0 - first,
            omega (arith, size),
            get_range order first end (held.0 - first) index (omega arith)
                ∙ ap (λ k. get_or order k index) sum ∙ held.2,
          )

-- rows of certificates that tie in the order of groups are equal in all but the key
same_question : (algorithm tbs signature other_key : List ℕ) (row : AcceptedRow)
    → IsOneGroup row (as_row Certificate algorithm other_key tbs signature)
    → row ≡ as_row Certificate algorithm row.key tbs signature
unfolding leading
same_question algorithm tbs signature other_key row one =
    let same : leading_of Certificate row.message row.key ≡ tbs =
    subst (λ operation. leading_of operation row.message row.key ≡ tbs) one.same_question one.same_leading in
    ap (λ operation. as_row operation row.scheme row.key row.message row.signature) one.same_question
    ∙ ap (λ scheme. as_row Certificate scheme row.key row.message row.signature) one.same_scheme
    ∙ ap (λ message. as_row Certificate algorithm row.key message row.signature) same
    ∙ ap (λ signature. as_row Certificate algorithm row.key tbs signature) one.same_signature

-- and the other way
ties : (algorithm tbs signature key other_key : List ℕ)
    → group_order (as_row Certificate algorithm key tbs signature)
    (as_row Certificate algorithm other_key tbs signature) ≡ Equal
unfolding group_order ending_order key_ending leading
ties algorithm tbs signature key other_key =
    tied_itself group_order_total (as_row Certificate algorithm key tbs signature)

-- what is seen of an element is among what is seen of all, and the other way
among_seen : {A B : Type 0} (seen : A → B) (xs : List A) (x : A) → Contains xs x → Contains (map seen xs) (seen x)
among_seen seen xs x held =
    (held.0, rw (length-map xs seen) held.1, get_or-map seen xs held.0 x (seen x) held.1 ∙ ap seen held.2)

seen_of : {B : Type 0} (seen : ℕ → B) (xs : List ℕ) (y : B) → Contains (map seen xs) y
    → (x : ℕ) × Contains xs x × (seen x ≡ y)
seen_of seen xs y held =
    let within : held.0 < length xs = rw (sym (length-map xs seen)) held.1 in
    (get_or xs held.0 0, Contains-get_or xs held.0 0 within, sym (get_or-map seen xs held.0 0 y within) ∙ held.2)

-- the keys of a certificate's group are those under which the table accepts its signature
pub keys_of_group : (rows : List AcceptedRow) (order group : List ℕ) (algorithm tbs signature other_key : List ℕ)
    → IsOrderOf rows order
    → IsGroupOf rows order (as_row Certificate algorithm other_key tbs signature) group
    → AreKeysOf (λ spki. accepted rows Certificate algorithm spki tbs signature) (map (key_at rows) group)
keys_of_group rows order group algorithm tbs signature other_key of is key = (listed, accepts)
  where
    sought : AcceptedRow
    sought = as_row Certificate algorithm other_key tbs signature

    row : AcceptedRow
    row = as_row Certificate algorithm key tbs signature

    listed : accepted rows Certificate algorithm key tbs signature ≡ true → Contains (map (key_at rows) group) key
    listed e =
        let held = (accepted-rows rows Certificate algorithm key tbs signature).0 e in
        let at : slice_get rows held.0 ≡ Some row = slice_get-get_or rows held.0 row held.1 ∙ ap Some held.2 in
        let tied : group_at rows held.0 sought ≡ Equal = rw at (ties algorithm tbs signature key other_key) in
        let here = (is held.0).1 (of.covers held.0 held.1, tied) in
        subst (λ k. Contains (map (key_at rows) group) k) (ap key_of at)
        (among_seen (key_at rows) group held.0 here)

    at_index : (index : ℕ) (found : Option AcceptedRow) → slice_get rows index ≡ found
        → option_cmp group_order found (Some sought) ≡ Equal → key_of found ≡ key → Contains rows row
    at_index index None at tied same = absurd cc
    at_index index (Some other) at tied same =
        let whole : other ≡ row =
        same_question algorithm tbs signature other_key other (one_group other sought tied)
        ∙ ap (λ k. as_row Certificate algorithm k tbs signature) same in
        let there : slice_get rows index ≡ Some row = at ∙ ap Some whole in
        (index, slice_get_within rows index row there, get_or_from_slice_get rows index row row there)

    accepts : Contains (map (key_at rows) group) key → accepted rows Certificate algorithm key tbs signature ≡ true
    accepts held =
        let from = seen_of (key_at rows) group key held in
        (accepted-rows rows Certificate algorithm key tbs signature).1
        (at_index from.0 (slice_get rows from.0) refl ((is from.0).0 from.1).1 from.2)
