-- What is found among entries, also after a value was put, and that their texts still ascend.
use Rattle.std.proofs.Common.{◌≡◌, ◌≢◌, ◌↔◌, ℕ, List, [], ◌∷◌, true, false, Option, None, Some, refl, sym, ap}
use Rattle.std.proofs.Common.{subst, ◌∙◌}
use Rattle.std.specs.Prelude.{bytes_eq, Contains}
use Rattle.std.specs.declared.cmp.Ordering.{Ordering}
use Rattle.std.specs.declared.cmp.Ordering.TheVariants.{Less, Equal, Greater}
use Rattle.std.specs.Ordering.{nat_cmp, is_eq, eq_by_cmp, match_ordering}
use Rattle.std.specs.Cmp.Lexicographic.{slice_cmp, bytes_decides}
use Rattle.std.specs.Map.{lookup}
use Rattle.std.proofs.lemmas.Bool.{false_from_ne_true}
use Rattle.std.proofs.lemmas.Cmp.{eq_by_cmp_equiv, nat_list_cmp_total}
use Rattle.std.proofs.lemmas.Map.Keys.{IsDistinct-from_sorted}
use Rattle.std.proofs.lemmas.Map.Views.{Contains-from_lookup, lookup-from_Contains}
use Rattle.std.proofs.lemmas.Map.Text.{is_eq-slice_cmp}
use Rattle.sig_base.specs.ByText.{text_lookup, text_put, KeysAscend}
use Rattle.sig_base.proofs.AscendingKeys.{ascend-insert_entry}

same : (text : List ℕ) → bytes_eq text text ≡ true
same text = (bytes_decides text text).1 refl

-- texts are equal as their order says
compared : (one other : List ℕ) (o : Ordering) → slice_cmp nat_cmp one other ≡ o → bytes_eq one other ≡ is_eq o
compared one other o e = sym (is_eq-slice_cmp one other) ∙ ap is_eq e

module _ {V : Type 0} where
  found_at : (text : List ℕ) (value : V) (e : List ℕ × V) (es : List (List ℕ × V)) (o : Ordering)
      → slice_cmp nat_cmp text e.0 ≡ o
      → text_lookup text (text_put text value es) ≡ Some value
      → text_lookup text (match_ordering o ((text, value) ∷ e ∷ es) ((e.0, value) ∷ es) (e ∷ text_put text value es))
      ≡ Some value
  found_at text value e es Less order found = rw (same text) refl
  found_at text value e es Equal order found = rw (compared text e.0 Equal order) refl
  found_at text value e es Greater order found = rw (compared text e.0 Greater order, found) refl

  pub put_found : (text : List ℕ) (value : V) (es : List (List ℕ × V))
      → text_lookup text (text_put text value es) ≡ Some value
  put_found text value [] = rw (same text) refl
  put_found text value (e ∷ es) = found_at text value e es (slice_cmp nat_cmp text e.0) refl (put_found text value es)

  lookup_text : (text : List ℕ) (es : List (List ℕ × V))
      → lookup (eq_by_cmp (slice_cmp nat_cmp) text) es ≡ text_lookup text es
  lookup_text text [] = refl
  lookup_text text (e ∷ es) = rw (is_eq-slice_cmp, lookup_text text es) refl

  pub found_exactly : (text : List ℕ) (value : V) (es : List (List ℕ × V)) → KeysAscend es
      → (text_lookup text es ≡ Some value) ↔ Contains es (text, value)
  found_exactly text value es up =
      let
      same_text : (one other : List ℕ) → eq_by_cmp (slice_cmp nat_cmp) one other ≡ true → one ≡ other
      = λ one other e. (bytes_decides one other).0 (sym (is_eq-slice_cmp one other) ∙ e)
      in (
        (λ e. Contains-from_lookup same_text text value es (lookup_text text es ∙ e)),
        (λ held. sym (lookup_text text es) ∙ lookup-from_Contains (eq_by_cmp_equiv nat_list_cmp_total) text value es
            (IsDistinct-from_sorted _ _ up) held),
      )

  pub absent_exactly : (text : List ℕ) (es : List (List ℕ × V)) → KeysAscend es
      → (text_lookup text es ≡ None) ↔ ((value : V) → Contains es (text, value) → ⊥)
  absent_exactly text es up = (
    (λ none value held. let found : text_lookup text es ≡ Some value = (found_exactly text value es up).1 held in
        absurd cc),
    (λ out. by (text_lookup text es) refl out),
  ) where
    by : (found : Option V) → text_lookup text es ≡ found → ((value : V) → Contains es (text, value) → ⊥)
        → found ≡ None
    by None is out = refl
    by (Some value) is out = absurd (out value ((found_exactly text value es up).0 is))

  kept_at : (text other : List ℕ) (value : V) (e : List ℕ × V) (es : List (List ℕ × V)) (o : Ordering)
      → slice_cmp nat_cmp text e.0 ≡ o
      → bytes_eq other text ≡ false
      → text_lookup other (text_put text value es) ≡ text_lookup other es
      → text_lookup other (match_ordering o ((text, value) ∷ e ∷ es) ((e.0, value) ∷ es) (e ∷ text_put text value es))
      ≡ text_lookup other (e ∷ es)
  kept_at text other value e es Less order apart kept = rw apart refl
  kept_at text other value e es Equal order apart kept =
      let here : bytes_eq other e.0 ≡ false = subst (λ t. bytes_eq other t ≡ false)
      ((bytes_decides text e.0).0 (compared text e.0 Equal order)) apart in
      rw here refl
  kept_at text other value e es Greater order apart kept = rw kept refl

  put_kept : (text other : List ℕ) (value : V) (es : List (List ℕ × V)) → bytes_eq other text ≡ false
      → text_lookup other (text_put text value es) ≡ text_lookup other es
  put_kept text other value [] apart = rw apart refl
  put_kept text other value (e ∷ es) apart =
      kept_at text other value e es (slice_cmp nat_cmp text e.0) refl apart (put_kept text other value es apart)

  pub put_others : (text other : List ℕ) (value : V) (es : List (List ℕ × V)) → other ≢ text
      → text_lookup other (text_put text value es) ≡ text_lookup other es
  put_others text other value es distinct =
      put_kept text other value es (false_from_ne_true (bytes_eq other text)
      (λ equal. distinct ((bytes_decides other text).0 equal)))

module _ {V : Type 0} where
  pub put_ascends : (text : List ℕ) (value : V) (es : List (List ℕ × V)) → KeysAscend es
      → KeysAscend (text_put text value es)
  put_ascends text value es = ascend-insert_entry (slice_cmp nat_cmp) nat_list_cmp_total es text value
