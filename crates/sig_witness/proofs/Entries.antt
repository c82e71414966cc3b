-- Entries of a map from texts: what holds of each, and a value that is put in place of another.
use Rattle.std.proofs.Common.{◌≡◌, ℕ, Bool, true, false, List, [], ◌∷◌, Option, Some, None, refl, sym, ap, ◌∙◌}
use Rattle.std.specs.Prelude.{String, string_bytes, bytes_eq, is_some, IsSome, Result, Ok, Err, OnErr}
use Rattle.std.specs.Option.{option_copied}
use denote.Ref.{Bor}
use Rattle.std.specs.declared.alloc.Global.{Global}
use Rattle.std.specs.declared.cmp.Ordering.{Ordering}
use Rattle.std.specs.declared.cmp.Ordering.TheVariants.{Less, Equal, Greater}
use Rattle.std.specs.Ordering.{nat_cmp, is_eq, match_ordering}
use Rattle.std.specs.Cmp.Lexicographic.{slice_cmp, bytes_decides}
use Rattle.std.specs.List.{AllByRecursion}
use Rattle.std.specs.List.Sorted.{IsStrictlySortedBy}
use Rattle.std.specs.Map.{set_value, keys_of}
use Rattle.std.proofs.lemmas.Cmp.{nat_list_cmp_total}
use Rattle.std.proofs.lemmas.Map.Text.{is_eq-slice_cmp}
use Rattle.sig_base.specs.ByText.{text_entries, text_lookup, text_put, KeysAscend}

-- texts are equal as their order says
pub compared : (one other : List ℕ) (o : Ordering) → slice_cmp nat_cmp one other ≡ o → bytes_eq one other ≡ is_eq o
compared one other o e = sym (is_eq-slice_cmp one other) ∙ ap is_eq e

pub compared-same : (one other : List ℕ) → slice_cmp nat_cmp one other ≡ Equal → one ≡ other
compared-same one other e = (bytes_decides one other).0 (compared one other Equal e)

below-later : (text next : List ℕ) (ks : List (List ℕ)) → slice_cmp nat_cmp text next ≡ Less
    → AllByRecursion (λ k. slice_cmp nat_cmp next k ≡ Less) ks → AllByRecursion (λ k. slice_cmp nat_cmp text k ≡ Less) ks
below-later text next [] below later = tt
below-later text next (k ∷ ks) below later =
    (nat_list_cmp_total.trans text next k below later.0, below-later text next ks below later.1)

module _ {V : Type 0} where
  -- what holds of each entry holds of one that is found
  pub found-all : (P : List ℕ × V → Type 0) (text : List ℕ) (value : V) (es : List (List ℕ × V)) → AllByRecursion P es
      → text_lookup text es ≡ Some value → P (text, value)
  found-all P text value [] all found = absurd cc
  found-all P text value ((k, v) ∷ es) all found =
      by (bytes_eq text k) refl (λ later. found-all P text value es all.1 later) where
        by : (b : Bool) → bytes_eq text k ≡ b → (text_lookup text es ≡ Some value → P (text, value)) → P (text, value)
        by true is rest =
            let same : text ≡ k = (bytes_decides text k).0 is in
            let held : Some v ≡ Some value = rw is at found in
            let value_is : v ≡ value = cc in
            rw (same, ← value_is) (all.0)
        by false is rest = rest (rw is at found)

  -- and of each once a value of which it holds is put
  pub put-all : (P : List ℕ × V → Type 0) (text : List ℕ) (value : V) (es : List (List ℕ × V)) → AllByRecursion P es
      → P (text, value) → AllByRecursion P (text_put text value es)
  put-all P text value [] all here = (here, tt)
  put-all P text value ((k, v) ∷ es) all here =
      by (slice_cmp nat_cmp text k) refl (put-all P text value es all.1 here) where
        by : (o : Ordering) → slice_cmp nat_cmp text k ≡ o → AllByRecursion P (text_put text value es)
            → AllByRecursion P (match_ordering o ((text, value) ∷ (k, v) ∷ es) ((k, value) ∷ es)
            ((k, v) ∷ text_put text value es))
        by Less is rest = (here, all)
        by Equal is rest = (rw (compared-same text k is) at here, all.1)
        by Greater is rest = (all.0, rest)

  -- a text below all is not there
  below-none : (text : List ℕ) (es : List (List ℕ × V))
      → AllByRecursion (λ k. slice_cmp nat_cmp text k ≡ Less) (keys_of es) → text_lookup text es ≡ None
  below-none text [] below = refl
  below-none text ((k, v) ∷ es) below = rw (compared text k Less below.0) (below-none text es below.1)

  -- a value that is set in the tree is put among its entries
  pub set-put : (text : List ℕ) (w old : V) (es : List (String Global × V)) → KeysAscend (text_entries es)
      → text_lookup text (text_entries es) ≡ Some old
      → text_entries (set_value (λ k. is_eq (slice_cmp nat_cmp text (string_bytes k))) es w)
      ≡ text_put text w (text_entries es)
  unfolding IsStrictlySortedBy
  set-put text w old [] up found = absurd cc
  set-put text w old (e ∷ es) up found =
      by (slice_cmp nat_cmp text (string_bytes e.0)) refl (λ later. set-put text w old es up.1 later)
    where
      by : (o : Ordering) → slice_cmp nat_cmp text (string_bytes e.0) ≡ o
          → (text_lookup text (text_entries es) ≡ Some old
          → text_entries (set_value (λ k. is_eq (slice_cmp nat_cmp text (string_bytes k))) es w)
          ≡ text_put text w (text_entries es))
          → text_entries (set_value (λ k. is_eq (slice_cmp nat_cmp text (string_bytes k))) (e ∷ es) w)
          ≡ text_put text w (text_entries (e ∷ es))
      by Less is rest =
          let apart : text_lookup text (text_entries es) ≡ Some old =
          rw (compared text (string_bytes e.0) Less is) at found in
          let none : text_lookup text (text_entries es) ≡ None = below-none text (text_entries es)
          (below-later text (string_bytes e.0) (keys_of (text_entries es)) is up.0) in
          absurd (let both : ◌≡◌ {A = Option V} None (Some old) = sym none ∙ apart in cc)
      by Equal is rest = rw is refl
      by Greater is rest =
          rw is (ap (λ later. (string_bytes e.0, e.1) ∷ later)
          (rest (rw (compared text (string_bytes e.0) Greater is) at found)))

-- a value that may be there
pub some-found : {V : Type 0} (o : Option (Bor V)) (found : Option V) → option_copied o ≡ found → is_some o ≡ true
    → (value : V) × (found ≡ Some value)
some-found None found copied some = absurd cc
some-found (Some held) found copied some = (held.now, sym copied)

pub none-there : {V : Type 0} (found : Option V) → found ≡ None → IsSome found → ⊥
none-there None none some = (let f : false ≡ true = some in cc)
none-there (Some value) none some = cc

pub on-err : {X E : Type 0} (r : Result X E) (P : Type 0) → P → OnErr r P
on-err (Ok x) P holds = tt
on-err (Err e) P holds = holds
