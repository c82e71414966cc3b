-- The names of a certificate, as far as they were written.
use Rattle.std.proofs.Common.{◌≡◌, ℕ, ◌+◌, ◌≤◌, List, [], ◌∷◌, ◌++◌, length, take, refl, sym, ap, ◌∙◌, arith}
use Rattle.std.proofs.Common.{append_assoc, length-append}
use Rattle.std.proofs.lemmas.List.{take_all, take-append-le, append-nil}
use Rattle.sig_json.proofs.WrittenLists.{list_tree-append}
use Rattle.sig_json.specs.Writing.{list_tree}
use Rattle.sig_certificate.specs.Names.{Name}
use Rattle.sig_json.specs.Builders.{with_last}
use Rattle.sig_json.specs.Data.{Data, array, no_items}
use Rattle.sig_verified.specs.Certificate.{most_names, name_tree, names_tree}

-- the names of the front are written, so many, and others are left
pub record IsWritten (all left : List Name) (tree : Data) (count : ℕ) : Type 0 where
  pub done : List Name
  pub tree_is : tree ≡ list_tree name_tree done
  pub split : all ≡ done ++ left
  pub counted : length done ≡ count
  pub few : count ≤ most_names

pub written_none : (all : List Name) (tree : Data) → tree ≡ array no_items → IsWritten all all tree 0
written_none all tree empty = record { done = []; tree_is = empty; split = refl; counted = refl; few = omega arith }

pub written_more : (all left rest : List Name) (name : Name) (before value after : Data) (count : ℕ)
    → IsWritten all left before count → left ≡ name ∷ rest → value ≡ name_tree name → after ≡ with_last value before
    → (count ≡ most_names → ⊥) → IsWritten all rest after (count + 1)
written_more all left rest name before value after count so_far first one pushed more = record {
  done = so_far.done ++ name ∷ [];
  tree_is = pushed ∙ ap (λ d. with_last d before) one ∙ ap (with_last (name_tree name)) so_far.tree_is
      ∙ list_tree-append name_tree so_far.done name;
  split = so_far.split ∙ ap (λ names. so_far.done ++ names) first ∙ sym (append_assoc so_far.done (name ∷ []) rest);
  counted = omega (arith, length-append so_far.done (name ∷ []), so_far.counted);
  few = omega (arith, so_far.few, more);
}

pub written_full : (all left : List Name) (tree : Data) (count : ℕ) → IsWritten all left tree count
    → count ≡ most_names → tree ≡ names_tree all
written_full all left tree count so_far full =
    let enough : most_names ≤ length so_far.done = omega (arith, so_far.counted) in
    let front : take most_names all ≡ so_far.done =
    ap (take most_names) so_far.split ∙ take-append-le most_names so_far.done left enough
    ∙ take_all most_names so_far.done (omega (arith, so_far.counted)) in
    so_far.tree_is ∙ ap (list_tree name_tree) (sym front)

pub written_all : (all left : List Name) (tree : Data) (count : ℕ) → IsWritten all left tree count → left ≡ []
    → tree ≡ names_tree all
written_all all left tree count so_far none =
    let whole : all ≡ so_far.done = so_far.split ∙ ap (λ names. so_far.done ++ names) none ∙ append-nil so_far.done in
    let front : take most_names all ≡ so_far.done =
    ap (take most_names) whole ∙ take_all most_names so_far.done (omega (arith, so_far.counted, so_far.few)) in
    so_far.tree_is ∙ ap (list_tree name_tree) (sym front)
