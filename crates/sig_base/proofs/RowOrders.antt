-- The order of rows is total, and rows that tie are equal; what is found by it is what the table holds.
use Rattle.std.proofs.Common.{◌≡◌, ◌↔◌, ℕ, ◌+◌, ◌<◌, List, [], ◌∷◌, ◌++◌, get_or, true, Option}
use Rattle.std.proofs.Common.{None, Some, Result, Ok, Err, refl, sym, ap, subst, ◌∙◌, arith, slice_get, ⊎_elim}
use borrow.Author.Count.{below_more}
use Rattle.std.specs.Prelude.{Contains, is_ok}
use Rattle.std.specs.declared.cmp.Ordering.{Ordering}
use Rattle.std.specs.declared.cmp.Ordering.TheVariants.{Equal}
use Rattle.std.specs.Cmp.{IsTotalOrder}
use Rattle.std.specs.Cmp.Lexicographic.{options_total}
use Rattle.std.specs.List.Sorted.{IsBinarySearchResult}
use Rattle.std.specs.Option.{option_cmp}
use Rattle.std.proofs.lemmas.Cmp.{then_total, on_total, nat_cmp_total, nat_list_cmp_total, tied_itself}
use Rattle.std.proofs.lemmas.List.Elements.{Contains-append_left, Contains-append_right}
use Rattle.std.proofs.lemmas.List.Sorted.{searchable_from_sorted}
use Rattle.std.proofs.lemmas.Map.Lookups.{CmpEqualImpliesEq, exact_unsigned, exact_bytes}
use Rattle.std.proofs.lemmas.Bool.{cases_lt}
use Rattle.std.proofs.lemmas.Option.{slice_get_within, get_or_from_slice_get, slice_get-get_or}
use Rattle.sig_base.specs.Checker.{operation_code}
use Rattle.sig_base.specs.RowOrder.{ending, key_ending, leading_of, leading, following, ending_order, group_order}
use Rattle.sig_base.specs.RowOrder.{row_order, IsOrderOf}
use Rattle.sig_base.specs.declared.checker.AcceptedRow.{AcceptedRow}
use Rattle.sig_base.specs.declared.checker.Operation.{Operation}
use Rattle.sig_base.specs.declared.checker.Operation.TheVariants.{Message, Prehash, Point, Certificate}
use Rattle.sig_base.proofs.Orderings.{both_tie}
use Rattle.sig_base.proofs.AcceptedRows.{as_row, same_operation}

ending_order_total : IsTotalOrder ending_order
unfolding ending_order
ending_order_total =
    then_total (then_total
    (on_total (λ row. ending row.signature) nat_cmp_total)
    (on_total (λ row. ending row.message) nat_cmp_total))
    (on_total (λ row. key_ending row.operation row.key) nat_cmp_total)

pub group_order_total : IsTotalOrder group_order
unfolding group_order
group_order_total =
    then_total (then_total (then_total (then_total
    ending_order_total
    (on_total (λ row. operation_code row.operation) nat_cmp_total))
    (on_total (λ row. row.signature) nat_list_cmp_total))
    (on_total (λ row. row.scheme) nat_list_cmp_total))
    (on_total leading nat_list_cmp_total)

pub row_order_total : IsTotalOrder row_order
unfolding row_order
row_order_total = then_total group_order_total (on_total following nat_list_cmp_total)

last_held : (n : ℕ) → Contains (n ∷ []) n
last_held n = (0, omega arith, refl)

-- one index more
pub covers_more : (n : ℕ) (xs ys : List ℕ) → ys ≡ xs ++ n ∷ [] → ((k : ℕ) → k < n → Contains xs k) → (k : ℕ)
    → k < n + 1 → Contains ys k
covers_more n xs ys e before k below =
    subst (λ l. Contains l k) (sym e)
    (below_more (λ m. Contains (xs ++ n ∷ []) m) n
    (λ m h. Contains-append_left xs (n ∷ []) m (before m h))
    (Contains-append_right xs (n ∷ []) n (last_held n)) k below)

-- both parts are the same, whichever leads
same_both : (operation : Operation) (message key other_message other_key : List ℕ)
    → leading_of operation message key ≡ leading_of operation other_message other_key
    → leading_of operation key message ≡ leading_of operation other_key other_message
    → (message ≡ other_message) × (key ≡ other_key)
same_both Message message key other_message other_key one two = (two, one)
same_both Prehash message key other_message other_key one two = (two, one)
same_both Point message key other_message other_key one two = (two, one)
same_both Certificate message key other_message other_key one two = (one, two)

-- rows that tie in the order of groups are equal in all but the following part
pub record IsOneGroup (a b : AcceptedRow) : Type 0 where
  pub same_question : a.operation ≡ b.operation
  pub same_signature : a.signature ≡ b.signature
  pub same_scheme : a.scheme ≡ b.scheme
  pub same_leading : leading a ≡ leading b

pub one_group : (a b : AcceptedRow) → group_order a b ≡ Equal → IsOneGroup a b
unfolding group_order
one_group a b e =
    let l = both_tie _ _ e in
    let s = both_tie _ _ l.0 in
    let g = both_tie _ _ s.0 in
    let o = both_tie _ _ g.0 in
    record {
      same_question = same_operation a.operation b.operation (exact_unsigned _ _ o.1);
      same_signature = exact_bytes a.signature b.signature g.1;
      same_scheme = exact_bytes a.scheme b.scheme s.1;
      same_leading = exact_bytes (leading a) (leading b) l.1;
    }

same_parts : (a b : AcceptedRow) → IsOneGroup a b → following a ≡ following b → a ≡ b
unfolding leading following
same_parts a b group follows =
    let both = same_both b.operation a.message a.key b.message b.key
    (subst (λ operation. leading_of operation a.message a.key ≡ leading b) group.same_question group.same_leading)
    (subst (λ operation. leading_of operation a.key a.message ≡ following b) group.same_question follows) in
    ap (λ operation. as_row operation a.scheme a.key a.message a.signature) group.same_question
    ∙ ap (λ scheme. as_row b.operation scheme a.key a.message a.signature) group.same_scheme
    ∙ ap (λ key. as_row b.operation b.scheme key a.message a.signature) both.1
    ∙ ap (λ message. as_row b.operation b.scheme b.key message a.signature) both.0
    ∙ ap (λ signature. as_row b.operation b.scheme b.key b.message signature) group.same_signature

-- rows that tie are equal
pub same_row : CmpEqualImpliesEq row_order
unfolding row_order
same_row a b e =
    let both = both_tie (group_order a b) _ e in
    same_parts a b (one_group a b both.0) (exact_bytes (following a) (following b) both.1)

module _ (rows : List AcceptedRow) (row : AcceptedRow) where
  -- what the search asks of each index
  abbrev pub sought : ℕ → Ordering
  sought index = option_cmp row_order (slice_get rows index) (Some row)

  tied_row : (found : Option AcceptedRow) → option_cmp row_order found (Some row) ≡ Equal → found ≡ Some row
  tied_row None e = absurd cc
  tied_row (Some other) e = ap Some (same_row other row e)

  at_row : (index : ℕ) → slice_get rows index ≡ Some row → sought index ≡ Equal
  at_row index e = rw e (tied_itself row_order_total row)

  -- the search finds an index if and only if the row is there
  pub finds_row : (order : List ℕ) (result : Result ℕ ℕ) → IsOrderOf rows order
      → IsBinarySearchResult sought order result
      → (is_ok result ≡ true) ↔ Contains rows row
  finds_row order (Ok place) of found = (
    λ _.
        let index : ℕ = get_or order place 0 in
        let is : slice_get rows index ≡ Some row = tied_row (slice_get rows index) (found 0) in
        (index, slice_get_within rows index row is, get_or_from_slice_get rows index row row is),
    λ _. refl,
  )
  finds_row order (Err place) of found = (
    λ e. absurd cc,
    λ held.
        let at : slice_get rows held.0 ≡ Some row = slice_get-get_or rows held.0 row held.1 ∙ ap Some held.2 in
        let place_of = of.covers held.0 held.1 in
        let tied : sought (get_or order place_of.0 held.0) ≡ Equal =
        subst (λ index. sought index ≡ Equal) (sym place_of.2) (at_row held.0 at) in
        let rises = searchable_from_sorted (options_total row_order_total) (λ index. slice_get rows index) order
        (Some row) of.ascends in
        let parts = found rises in
        ⊎_elim
        (λ before. let less = parts.0 place_of.0 held.0 (omega arith) before in absurd (cc (less, tied)))
        (λ after. let greater = parts.1 place_of.0 held.0 after place_of.1 in absurd (cc (greater, tied)))
        (cases_lt place_of.0 place),
  )
