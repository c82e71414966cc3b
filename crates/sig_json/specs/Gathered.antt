-- For private clauses: the members of an object as they come in its text, and as they are in its tree.
use Rattle.std.specs.Cow.{cow_str_bytes}
use Rattle.std.specs.Prelude.{◌≡◌, ◌<◌, ◌≤◌, ℕ, List, [], ◌∷◌, length, slice_index_or, Result}
use Rattle.std.specs.Prelude.{Ok, Err}
use Rattle.std.specs.Cmp.Lexicographic.{slice_cmp}
use Rattle.std.specs.List.Sorted.{IsPartitionPoint}
use Rattle.std.specs.Ordering.{nat_cmp}
use Rattle.std.specs.declared.cmp.Ordering.TheVariants.{Less, Equal, Greater}
use Rattle.serde_json.specs.Data.{Data, Members, no_members, put}
use Rattle.sig_base.specs.ByText.{KeysAscend}
use Rattle.sig_json.specs.Members.{members_list}
use Rattle.sig_json.specs.View.{Words, view, members_view}
use Rattle.sig_json.specs.declared.tree.Tree.{Tree}

abbrev pub Entry : Type 0
Entry = Words × Tree

-- a member as its name and its data
abbrev pub seen : Entry → List ℕ × Data
seen e = (cow_str_bytes e.0, view e.1)

-- put one after another into those that are there, so that of equal names the last value counts
abbrev pub put_each : List Entry → Members → Members
put_each [] members = members
put_each (e ∷ es) members = put_each es (put (cow_str_bytes e.0) (view e.1) members)

abbrev pub gathered : List Entry → Members
gathered es = put_each es no_members

-- each name is below those after it
abbrev pub InOrder : List Entry → Type 0
InOrder es = KeysAscend (members_list (members_view es))

-- the place of the member of this name, or the place between the lesser names and the greater ones
abbrev pub IsPlaceOf : List ℕ → List Entry → Result ℕ ℕ → Type 0
IsPlaceOf name es (Ok place) =
    (place < length es) × ((e : Entry) → slice_cmp nat_cmp (cow_str_bytes (slice_index_or es place e).0) name ≡ Equal)
IsPlaceOf name es (Err place) =
    (place ≤ length es) × IsPartitionPoint (λ e. slice_cmp nat_cmp (cow_str_bytes e.0) name ≡ Less)
    (λ e. slice_cmp nat_cmp (cow_str_bytes e.0) name ≡ Greater) es place

-- so few members are put in order as they are read
abbrev pub few : ℕ
few = 8

-- few members are in order
abbrev pub AreInOrderIfFew : List Entry → Type 0
AreInOrderIfFew es = length es ≤ few → InOrder es
