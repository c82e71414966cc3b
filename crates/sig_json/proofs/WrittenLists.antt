-- Lists that are written element by element, and read back.
use Rattle.std.proofs.Common.{◌≡◌, ℕ, ◌<◌, ◌+◌, List, [], ◌∷◌, ◌++◌, length, take, get_or, Option, Some, None, refl}
use Rattle.std.proofs.Common.{sym, ap, ◌∙◌}
use Rattle.std.proofs.lemmas.List.{take_more}
use Rattle.sig_base.specs.OptionSteps.{◌>>=◌}
use Rattle.serde_json.specs.Data.{Data, item}
use Rattle.sig_json.specs.Writing.{IsReadAs, items_of, list_tree}
use Rattle.sig_json.specs.Builders.{with_last, items_with_last}
use Rattle.sig_json.specs.List.{items_list}
use Rattle.sig_json.specs.Member.{each, list_each}

items_of-append : {A : Type 0} → (written : A → Data) (xs : List A) (x : A)
    → items_of written (xs ++ x ∷ []) ≡ items_with_last (items_of written xs) (written x)
items_of-append written [] x = refl
items_of-append written (y ∷ ys) x = ap (λ rest. item (written y) rest) (items_of-append written ys x)

pub list_tree-append : {A : Type 0} → (written : A → Data) (xs : List A) (x : A)
    → with_last (written x) (list_tree written xs) ≡ list_tree written (xs ++ x ∷ [])
list_tree-append written xs x = rw (items_of-append written xs x) refl

each-first_from : {A : Type 0}
    → (kind : Data → Option A) (first : Option A) (rest : Option (List A)) (y : A) (ys : List A)
    → (first >>= λ x. rest >>= λ xs. Some (x ∷ xs)) ≡ Some (y ∷ ys) → (first ≡ Some y) × (rest ≡ Some ys)
each-first_from kind None rest y ys e = absurd cc
each-first_from kind (Some x) None y ys e = absurd cc
each-first_from kind (Some x) (Some xs) y ys e = let whole : x ∷ xs ≡ y ∷ ys = cc in (cc, cc)

-- the first element and the rest, each read back
each-first : {A : Type 0} → (kind : Data → Option A) (d : Data) (ds : List Data) (y : A) (ys : List A)
    → each kind (d ∷ ds) ≡ Some (y ∷ ys) → (kind d ≡ Some y) × (each kind ds ≡ Some ys)
each-first kind d ds y ys e = each-first_from kind (kind d) (each kind ds) y ys e

each_back-append : {A : Type 0} → (kind : Data → Option A) (written : A → Data) (xs : List A) (x : A)
    → each kind (items_list (items_of written xs)) ≡ Some xs → kind (written x) ≡ Some x
    → each kind (items_list (items_of written (xs ++ x ∷ []))) ≡ Some (xs ++ x ∷ [])
each_back-append kind written [] x so_far one = rw one refl
each_back-append kind written (y ∷ ys) x so_far one =
    let parts = each-first kind (written y) (items_list (items_of written ys)) y ys so_far in rw
    (parts.0, each_back-append kind written ys x parts.1 one) refl

list_each-back : {A : Type 0} → (kind : Data → Option A) (written : A → Data) (xs : List A)
    → each kind (items_list (items_of written xs)) ≡ Some xs → IsReadAs (list_each kind) (list_tree written xs) xs
unfolding list_each
list_each-back kind written xs e = (e, refl)

list_each-parts : {A : Type 0} → (kind : Data → Option A) (written : A → Data) (xs : List A)
    → IsReadAs (list_each kind) (list_tree written xs) xs → each kind (items_list (items_of written xs)) ≡ Some xs
unfolding list_each
list_each-parts kind written xs back = back.0

pub list_back-none : {A : Type 0} → (kind : Data → Option A) (written : A → Data)
    → IsReadAs (list_each kind) (list_tree written []) []
list_back-none kind written = list_each-back kind written [] refl

pub list_back-append : {A : Type 0} → (kind : Data → Option A) (written : A → Data) (xs : List A) (x : A)
    → IsReadAs (list_each kind) (list_tree written xs) xs → IsReadAs kind (written x) x
    → IsReadAs (list_each kind) (list_tree written (xs ++ x ∷ [])) (xs ++ x ∷ [])
list_back-append kind written xs x so_far one =
    list_each-back kind written (xs ++ x ∷ [])
    (each_back-append kind written xs x (list_each-parts kind written xs so_far) one.0)

-- one turn of the loop
pub list_more : {A : Type 0}
    → (kind : Data → Option A) (written : A → Data) (xs : List A) (i : ℕ) (x : A) (before after : Data)
    → i < length xs → x ≡ get_or xs i x
    → (before ≡ list_tree written (take i xs)) × IsReadAs (list_each kind) (list_tree written (take i xs)) (take i xs)
    → IsReadAs kind (written x) x → after ≡ with_last (written x) before
    → (after ≡ list_tree written (take (i + 1) xs)) × IsReadAs (list_each kind) (list_tree written (take (i + 1) xs))
    (take (i + 1) xs)
list_more kind written xs i x before after h is so_far one pushed =
    let step : take (i + 1) xs ≡ take i xs ++ x ∷ [] = take_more xs i x h ∙ ap (λ y. take i xs ++ y ∷ []) (sym is) in
    rw step (
      pushed ∙ (ap (with_last (written x)) so_far.0 ∙ list_tree-append written (take i xs) x),
      list_back-append
          kind written (take i xs) x so_far.1 one,
    )

pub ruleset lists = (list_tree-append, list_back-none, list_back-append)
