-- What is found in the order of a part is what some row has.
use Rattle.std.proofs.Common.{◌≡◌, ◌↔◌, ℕ, List, Bool, get_or, true, Option, None, Some, Result, Ok, Err}
use Rattle.std.proofs.Common.{refl, sym, ap, subst, ◌∙◌, arith, slice_get, ⊎_elim}
use Rattle.std.specs.Prelude.{Any, is_ok}
use Rattle.std.specs.Cmp.{IsTotalOrder}
use Rattle.std.specs.Cmp.Lexicographic.{options_total}
use Rattle.std.specs.List.Sorted.{IsBinarySearchResult}
use Rattle.std.specs.Option.{option_cmp, option_map}
use Rattle.std.specs.Str.{bytes_eq}
use Rattle.std.specs.declared.cmp.Ordering.{Ordering}
use Rattle.std.specs.declared.cmp.Ordering.TheVariants.{Equal}
use Rattle.std.proofs.lemmas.Bool.{cases_lt}
use Rattle.std.proofs.lemmas.Cmp.{nat_list_cmp_total, tied_itself}
use Rattle.std.proofs.lemmas.List.Folds.{Any-from_list_any, list_any-from_Any}
use Rattle.std.proofs.lemmas.List.Sorted.{searchable_from_sorted}
use Rattle.std.proofs.lemmas.Map.Lookups.{exact_bytes}
use Rattle.std.proofs.lemmas.Option.{slice_get_within, get_or_from_slice_get, slice_get-get_or}
use Rattle.std.proofs.lemmas.Slice.Eq.{bytes_eq-Decides}
use Rattle.sig_base.specs.PartOrder.{IsOrderBy, bytes_cmp, has_part, part_at, part_of}
use Rattle.sig_base.specs.declared.checker.AcceptedRow.{AcceptedRow}
use Rattle.sig_base.specs.declared.part_order.RowPart.{RowPart}

module _ (part : RowPart) (rows : List AcceptedRow) (bytes : List ℕ) where
  -- what the search asks of each index
  abbrev pub sought : ℕ → Ordering
  sought index = option_cmp bytes_cmp (part_at part rows index) (Some bytes)

  -- the index of a row whose part ties has a row that has it
  held_at : (index : ℕ) (found : Option AcceptedRow) → slice_get rows index ≡ found
      → option_cmp bytes_cmp (option_map (part_of part) found) (Some bytes) ≡ Equal → has_part part rows bytes ≡ true
  held_at index None at e = absurd cc
  held_at index (Some row) at e =
      list_any-from_Any (λ r. bytes_eq (part_of part r) bytes) rows (
        index,
        row,
        slice_get_within rows index row at,
        get_or_from_slice_get rows index row row at,
        (bytes_eq-Decides (part_of part row) bytes).1 (exact_bytes (part_of part row) bytes e),
      )

  -- the search finds an index if and only if some row has the part
  pub finds_part : (order : List ℕ) (result : Result ℕ ℕ) → IsOrderBy part rows order
      → IsBinarySearchResult sought order result → (is_ok result ≡ true) ↔ (has_part part rows bytes ≡ true)
  finds_part order (Ok place) of found = (
    λ _. held_at (get_or order place 0) (slice_get rows (get_or order place 0)) refl (found 0),
    λ _. refl,
  )
  finds_part order (Err place) of found = (
    λ e. absurd cc,
    λ e.
        let some : Any (λ row. bytes_eq (part_of part row) bytes ≡ true) rows =
        Any-from_list_any (λ r. bytes_eq (part_of part r) bytes) rows e in
        let at : slice_get rows some.0 ≡ Some some.1 = slice_get-get_or rows some.0 some.1 some.2 ∙ ap Some some.3 in
        let same : part_of part some.1 ≡ bytes = (bytes_eq-Decides (part_of part some.1) bytes).0 some.4 in
        let ties : sought some.0 ≡ Equal = rw (at, same) (tied_itself nat_list_cmp_total bytes) in
        let place_of = of.covers some.0 some.2 in
        let tied : sought (get_or order place_of.0 some.0) ≡ Equal =
        subst (λ index. sought index ≡ Equal) (sym place_of.2) ties in
        let rises = searchable_from_sorted (options_total nat_list_cmp_total) (λ index. part_at part rows index) order
        (Some bytes) of.ascends in
        let parts = found rises in
        ⊎_elim
        (λ before. let less = parts.0 place_of.0 some.0 (omega arith) before in absurd (cc (less, tied)))
        (λ after. let greater = parts.1 place_of.0 some.0 after place_of.1 in absurd (cc (greater, tied)))
        (cases_lt place_of.0 place),
  )
