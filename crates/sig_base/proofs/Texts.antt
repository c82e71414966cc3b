-- A map over a tree whose keys are strings, as the list of its entries.
use Rattle.std.proofs.Common.{◌≡◌, ℕ, suc, List, [], ◌∷◌, ◌++◌, length, refl, ap, sym, subst, append_assoc, ◌∙◌}
use Rattle.std.specs.Prelude.{String, string_bytes}
use Rattle.std.specs.declared.alloc.Global.{Global}
use Rattle.std.specs.declared.cmp.Ordering.TheVariants.{Less, Equal, Greater}
use Rattle.std.specs.Ordering.{nat_cmp, is_eq, match_ordering, ordering_reverse}
use Rattle.std.specs.Cmp.Lexicographic.{slice_cmp}
use Rattle.std.specs.BTreeMap.{insert_entry}
use Rattle.std.specs.Map.{lookup, keys_of}
use Rattle.std.specs.List.{AllByRecursion}
use Rattle.std.specs.List.Sorted.{IsStrictlySortedBy}
use Rattle.std.proofs.lemmas.Cmp.{nat_list_cmp_total}
use Rattle.std.proofs.lemmas.Map.Text.{is_eq-slice_cmp}
use Rattle.sig_base.specs.ByText.{text_entries, text_lookup, text_put, KeysAscend}

module _ {V : Type 0} where
  pub length-text_entries : (es : List (String Global × V)) → length (text_entries es) ≡ length es
  length-text_entries [] = refl
  length-text_entries (e ∷ es) = ap (λ n. suc n) (length-text_entries es)

  pub text_lookup-entries : (text : List ℕ) (es : List (String Global × V))
      → lookup (λ k. is_eq (slice_cmp nat_cmp text (string_bytes k))) es ≡ text_lookup text (text_entries es)
  text_lookup-entries text [] = refl
  text_lookup-entries text (e ∷ es) = rw (is_eq-slice_cmp, text_lookup-entries text es) refl

  pub text_put-entries : (es : List (String Global × V)) (k : String Global) (v : V)
      → text_entries (insert_entry (λ a b. slice_cmp nat_cmp (string_bytes a) (string_bytes b)) es k v)
      ≡ text_put (string_bytes k) v (text_entries es)
  text_put-entries [] k v = refl
  text_put-entries (e ∷ es) k v =
      elim (slice_cmp nat_cmp (string_bytes k) (string_bytes e.0)) as (λ o.
      text_entries (match_ordering o ((k, v) ∷ e ∷ es) ((e.0, v) ∷ es)
      (e ∷ insert_entry (λ a b. slice_cmp nat_cmp (string_bytes a) (string_bytes b)) es k v))
      ≡ match_ordering o ((string_bytes k, v) ∷ text_entries (e ∷ es)) ((string_bytes e.0, v) ∷ text_entries es)
      ((string_bytes e.0, e.1) ∷ text_put (string_bytes k) v (text_entries es)))
      [ Less ↦ refl | Equal ↦ refl | Greater ↦ ap (λ r. (string_bytes e.0, e.1) ∷ r) (text_put-entries es k v) ]

  below_all : (text : List ℕ) (es : List (String Global × V))
      → AllByRecursion (λ k. slice_cmp nat_cmp text (string_bytes k) ≡ Less) (keys_of es)
      → AllByRecursion (λ k. slice_cmp nat_cmp text k ≡ Less) (keys_of (text_entries es))
  below_all text [] below = below
  below_all text (e ∷ es) below = (below.0, below_all text es below.1)

  pub ascend-entries : (es : List (String Global × V))
      → IsStrictlySortedBy (λ a b. slice_cmp nat_cmp (string_bytes a) (string_bytes b)) (keys_of es)
      → KeysAscend (text_entries es)
  unfolding IsStrictlySortedBy
  ascend-entries [] up = up
  ascend-entries (e ∷ es) up = (below_all (string_bytes e.0) es up.0, ascend-entries es up.1)

  below_next : (text : List ℕ) (es : List (List ℕ × V)) (e : List ℕ × V) (rest : List (List ℕ × V))
      → AllByRecursion (λ k. slice_cmp nat_cmp text k ≡ Less) (keys_of (es ++ e ∷ rest))
      → slice_cmp nat_cmp text e.0 ≡ Less
  below_next text [] e rest below = below.0
  below_next text (x ∷ es) e rest below = below_next text es e rest below.1

  -- the next of ascending entries goes after those before it
  pub text_put-next : (es : List (List ℕ × V)) (e : List ℕ × V) (rest : List (List ℕ × V))
      → KeysAscend (es ++ e ∷ rest)
      → text_put e.0 e.1 es ≡ es ++ e ∷ []
  unfolding IsStrictlySortedBy
  text_put-next [] e rest up = refl
  text_put-next (x ∷ es) e rest up =
      let above : slice_cmp nat_cmp e.0 x.0 ≡ Greater =
      nat_list_cmp_total.antisymm e.0 x.0 ∙ ap ordering_reverse (below_next x.0 es e rest up.0) in
      rw (above, text_put-next es e rest up.1) refl

  -- with the next entry put after, what was walked and what is left are still the map
  pub text_put-walked : (walked left after all : List (List ℕ × V)) (e : List ℕ × V)
      → KeysAscend all → walked ++ left ≡ all → left ≡ e ∷ after
      → text_put e.0 e.1 walked ++ after ≡ all
  text_put-walked walked left after all e up whole next =
      let is : walked ++ e ∷ after ≡ all = ap (λ l. walked ++ l) (sym next) ∙ whole in
      ap (λ l. l ++ after) (text_put-next walked e after (subst KeysAscend (sym is) up))
      ∙ append_assoc walked (e ∷ []) after
      ∙ is

pub ruleset text_maps = (length-text_entries, text_lookup-entries, text_put-entries)
