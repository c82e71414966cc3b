-- Two lists whose elements are related one by one.
use Rattle.std.proofs.Common.{◌≡◌, ℕ, ◌+◌, ◌<◌, List, [], ◌∷◌, ◌++◌, take, get_or, length, refl, sym, ap, ◌∙◌}
use Rattle.std.proofs.lemmas.List.{take_more}
use Rattle.std.specs.List.{AllZip}

zip_push : {A B : Type 0} (R : A → B → Type 0) (xs : List A) (ys : List B) (x : A) (y : B) → AllZip R xs ys → R x y
    → AllZip R (xs ++ x ∷ []) (ys ++ y ∷ [])
zip_push R [] [] x y are is = (is, tt)
zip_push R [] (b ∷ ys) x y are is = absurd are
zip_push R (a ∷ xs) [] x y are is = absurd are
zip_push R (a ∷ xs) (b ∷ ys) x y are is = (are.0, zip_push R xs ys x y are.1 is)

-- One more of each: the elements x are walked in the list's own memory, us.
pub zip_more : {A B : Type 0} (R : A → B → Type 0) (xs us : List A) (index : ℕ) (x u : A) (y : B)
    (before after : List B) → us ≡ xs → index < length us → u ≡ get_or us index u → x ≡ u → R x y
    → after ≡ before ++ y ∷ [] → AllZip R (take index xs) before → AllZip R (take (index + 1) xs) after
zip_more R xs us index x u y before after same lt there seen is grown are =
    let below : index < length xs = rw (sym same) lt in
    let got : x ≡ get_or xs index x = rw (seen, sym same) there in
    rw (grown, take_more xs index x below, sym got) (zip_push R (take index xs) before x y are is)

-- where what one relation relates to an element is what the other relates to it, the lists are one
pub zip_one : {A B : Type 0} (R S : A → B → Type 0) → ((x : A) (y z : B) → R x y → S x z → y ≡ z)
    → (xs : List A) (ys zs : List B) → AllZip R xs ys → AllZip S xs zs → ys ≡ zs
zip_one R S one [] [] [] are other = refl
zip_one R S one [] (y ∷ ys) zs are other = absurd are
zip_one R S one [] [] (z ∷ zs) are other = absurd other
zip_one R S one (x ∷ xs) [] zs are other = absurd are
zip_one R S one (x ∷ xs) (y ∷ ys) [] are other = absurd other
zip_one {B = B} R S one (x ∷ xs) (y ∷ ys) (z ∷ zs) are other =
    ap (λ (e : B). e ∷ ys) (one x y z are.0 other.0)
    ∙ ap (λ (es : List B). z ∷ es) (zip_one R S one xs ys zs are.1 other.1)
