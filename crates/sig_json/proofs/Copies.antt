-- Lists and objects copied part by part.
use Rattle.std.proofs.Common.{◌≡◌, ◌+◌, ◌<◌, ℕ, List, [], ◌∷◌, ◌++◌, length, map, take, get_or}
use Rattle.std.proofs.Common.{refl, sym, ap, ap₂, ◌∙◌}
use Rattle.std.proofs.Math.Seq.{take-length}
use Rattle.std.proofs.lemmas.List.{map-append, take_more}
use Rattle.serde_json.specs.Data.{member}
use Rattle.serde_json.specs.View.{items_of}
use Rattle.sig_json.proofs.Trees.{view-Null, view-Bool, view-Number, view-Text, view-Array, view-Object}
use Rattle.sig_json.specs.Gathered.{Entry, seen}
use Rattle.sig_json.specs.View.{view, items_view, members_view}
use Rattle.sig_json.specs.declared.tree.Tree.{Tree}

pub members_from_seen : (es fs : List Entry) → map seen es ≡ map seen fs → members_view es ≡ members_view fs
members_from_seen [] [] same = refl
members_from_seen [] (f ∷ fs) same = cc
members_from_seen (e ∷ es) [] same = cc
members_from_seen (e ∷ es) (f ∷ fs) same =
    let first : seen e ≡ seen f = cc in
    ap₂ (λ m ms. member m.0 m.1 ms) first (members_from_seen es fs cc)

one_more : {A B : Type 0} → (f : A → B) (done all : List A) (i : ℕ) (copied next : A) → i < length all
    → next ≡ get_or all i next → f copied ≡ f next → map f done ≡ map f (take i all)
    → map f (done ++ copied ∷ []) ≡ map f (take (i + 1) all)
one_more f done all i copied next within is same so_far =
    map-append f done (copied ∷ [])
    ∙ rw (so_far, same) (sym (ap (map f) (take_more all i next within ∙ ap (λ x. take i all ++ x ∷ []) (sym is))
    ∙ map-append f (take i all) (next ∷ [])))

pub items_more : (done all : List Tree) (i : ℕ) (copied next : Tree) → i < length all → next ≡ get_or all i next
    → view copied ≡ view next → map view done ≡ map view (take i all)
    → map view (done ++ copied ∷ []) ≡ map view (take (i + 1) all)
items_more = one_more view

pub items_all : (done all : List Tree) (i : ℕ) → i ≡ length all → map view done ≡ map view (take i all)
    → items_view done ≡ items_view all
items_all done all i end so_far = ap items_of (so_far ∙ rw (end, take-length all) refl)

pub members_more : (done all : List Entry) (i : ℕ) (copied next : Entry) → i < length all → next ≡ get_or all i next
    → seen copied ≡ seen next → map seen done ≡ map seen (take i all)
    → map seen (done ++ copied ∷ []) ≡ map seen (take (i + 1) all)
members_more = one_more seen

pub members_all : (done all : List Entry) (i : ℕ) → i ≡ length all → map seen done ≡ map seen (take i all)
    → members_view done ≡ members_view all
members_all done all i end so_far = members_from_seen done all (so_far ∙ rw (end, take-length all) refl)

pub ruleset copies = (
  view-Null,
  view-Bool,
  view-Number,
  view-Text,
  view-Array,
  view-Object,
  items_more,
  items_all,
  members_more,
  members_all,
)
