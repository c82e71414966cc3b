-- Lists that are written element by element.
use Rattle.std.proofs.Common.{◌≡◌, ℕ, ◌<◌, ◌+◌, List, [], ◌∷◌, ◌++◌, length, take, get_or, sym, ap, ◌∙◌}
use Rattle.std.proofs.lemmas.List.{take_more}
use Rattle.sig_json.proofs.WrittenLists.{list_tree-append}
use Rattle.sig_json.specs.Writing.{list_tree}
use Rattle.sig_json.specs.Builders.{with_last}
use Rattle.sig_json.specs.Data.{Data}

-- one turn of the loop
pub list_more : {A : Type 0} → (written : A → Data) (xs : List A) (i : ℕ) (x : A) (before value after : Data)
    → i < length xs → x ≡ get_or xs i x → before ≡ list_tree written (take i xs) → value ≡ written x
    → after ≡ with_last value before → after ≡ list_tree written (take (i + 1) xs)
list_more written xs i x before value after below is so_far one pushed =
    let step : take (i + 1) xs ≡ take i xs ++ x ∷ [] = take_more xs i x below ∙ ap (λ y. take i xs ++ y ∷ []) (sym is) in
    pushed ∙ ap (λ d. with_last d before) one ∙ ap (with_last (written x)) so_far
    ∙ list_tree-append written (take i xs) x ∙ ap (list_tree written) (sym step)
