-- For private clauses: the members of an object in the order of their names, by a sort of their indices.
use Rattle.std.specs.Prelude.{◌≡◌, ◌<◌, ℕ, suc, List, [], ◌∷◌, length, map, slice_get, slice_index_or, Bool}
use Rattle.std.specs.Cow.{cow_str_bytes}
use Rattle.std.specs.Cmp.Lexicographic.{slice_cmp}
use Rattle.std.specs.Option.{option_cmp}
use Rattle.std.specs.Ordering.{nat_cmp, is_lt, on, then_cmp}
use Rattle.std.specs.declared.cmp.Ordering.{Ordering}
use Rattle.sig_base.specs.Rank.{rank_from}
use Rattle.sig_json.specs.Gathered.{Entry, gathered}
use Rattle.sig_json.specs.declared.sort.Key.{Key}

-- the key of each name, whose rank is of its bytes from one on, and whose indices count on from a first one
abbrev pub ranked : (from index : ℕ) → List (List ℕ) → List Key
ranked from index [] = []
ranked from index (name ∷ names) =
    (record { rank = rank_from from name; index = index }) ∷ ranked from (suc index) names

abbrev pub entry_names : List Entry → List (List ℕ)
entry_names = map (λ e. cow_str_bytes e.0)

-- one key before another: by rank, then by the names at their indices
unfoldable pub key_order : List (List ℕ) → Key → Key → Ordering
key_order names =
    then_cmp
    (on (λ key. key.rank) nat_cmp)
    (on (λ key. slice_get names key.index) (option_cmp (slice_cmp nat_cmp)))

abbrev pub comes_first : List (List ℕ) → Key → Key → Bool
comes_first names one other = is_lt (key_order names one other)

-- the members at the indices of these keys
abbrev pub entries_at : Entry → List Entry → List Key → List Entry
entries_at other es keys = map (λ key. slice_index_or es key.index other) keys

-- each key is of a member and no two of the same, and the members that they name make the same when one is put after
-- another
pub record IsOrderOf (es : List Entry) (keys : List Key) : Type 0 where
  pub within : (i : ℕ) (key : Key) → i < length keys → (slice_index_or keys i key).index < length es
  pub apart : (i j : ℕ) (key : Key) → i < length keys → j < length keys
      → (slice_index_or keys i key).index ≡ (slice_index_or keys j key).index → i ≡ j
  pub same : (other : Entry) → gathered (entries_at other es keys) ≡ gathered es
