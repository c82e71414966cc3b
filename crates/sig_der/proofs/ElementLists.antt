-- A list of like parts: reading one part after another, as a loop does it, and what it says of the text.
-- A reader is any function that takes a part from the front and leaves a shorter rest (`Shrinks`).
use Rattle.std.proofs.Common.{◌≡◌, ◌≢◌, ℕ, zero, suc, ◌<◌, ◌≤◌, List, [], ◌∷◌, ◌++◌, length, Option, Some, None, refl}
use Rattle.std.proofs.Common.{sym, ap, subst, ◌∙◌, append_assoc, arith}
use Rattle.std.specs.Prelude.{option_map}
use Rattle.std.proofs.lemmas.List.{append-nil}
use Rattle.sig_base.specs.OptionSteps.{◌>>=◌}
use Rattle.sig_base.proofs.OptionSteps.{bind_is, bind_of_some, some, some_is}
use Rattle.sig_der.specs.FrontReaders.{many_within, many_at}
use Rattle.sig_der.specs.Joined.{joined, AreJoined}
use Rattle.sig_der.proofs.Bytes.{IsBytes, IsBytes-right}

-- each part takes a byte at least
abbrev pub Shrinks : {A : Type 0} → (List ℕ → Option (A × List ℕ)) → Type 0
Shrinks {A = A} read = (bytes : List ℕ) (y : A × List ℕ) → read bytes ≡ Some y → length y.1 < length bytes

-- what was read before, and then the rest
abbrev pub with_front : {A : Type 0} → List A → Option (List A) → Option (List A)
with_front front rest = option_map (λ xs. front ++ xs) rest

with_front_push : {A : Type 0} (front : List A) (x : A) (o : Option (List A))
    → with_front (front ++ x ∷ []) o ≡ with_front front (o >>= λ xs. Some (x ∷ xs))
with_front_push front x (Some xs) = ap (λ ys. some ys) (append_assoc front (x ∷ []) xs)
with_front_push front x None = refl

-- ---- the number of readings does not matter once it suffices

enough : {A : Type 0} (read : List ℕ → Option (A × List ℕ)) → Shrinks read → (m n : ℕ) (bytes : List ℕ)
    → length bytes ≤ m → length bytes ≤ n
    → many_within read m bytes ≡ many_within read n bytes
unfolding many_within
enough read shrinks m n [] a b = refl
enough read shrinks zero n (x ∷ bytes) a b = absurd (omega arith)
enough read shrinks (suc m) zero (x ∷ bytes) a b = absurd (omega arith)
enough {A = A} read shrinks (suc m) (suc n) (x ∷ bytes) a b =
    after (read (x ∷ bytes))
    (λ y is. let less = shrinks (x ∷ bytes) y is in enough read shrinks m n y.1 (omega arith) (omega arith))
  where
    after : (o : Option (A × List ℕ))
        → ((y : A × List ℕ) → o ≡ Some y → many_within read m y.1 ≡ many_within read n y.1)
        → (o >>= λ y. many_within read m y.1 >>= λ xs. Some (y.0 ∷ xs))
        ≡ (o >>= λ y. many_within read n y.1 >>= λ xs. Some (y.0 ∷ xs))
    after None h = refl
    after (Some y) h = ap (λ (o : Option (List A)). o >>= λ xs. Some (y.0 ∷ xs)) (h y refl)

-- ---- one turn of a loop

pub many_at_none : {A : Type 0} (read : List ℕ → Option (A × List ℕ)) → many_at read [] ≡ Some []
unfolding many_at many_within
many_at_none read = refl

pub many_at_more : {A : Type 0} (read : List ℕ → Option (A × List ℕ)) → Shrinks read
    → (bytes : List ℕ) (y : A × List ℕ) → read bytes ≡ Some y
    → many_at read bytes ≡ (many_at read y.1 >>= λ xs. Some (y.0 ∷ xs))
unfolding many_at many_within
many_at_more read shrinks [] y is = absurd (let less = shrinks [] y is in omega arith)
many_at_more {A = A} read shrinks (b ∷ bytes) y is =
    let less = shrinks (b ∷ bytes) y is in
    bind_of_some (read (b ∷ bytes)) _ y is
    ∙ ap (λ (o : Option (List A)). o >>= λ xs. Some (y.0 ∷ xs))
    (enough read shrinks (length bytes) (length y.1) y.1 (omega arith) (omega arith))

pub many_at_stops : {A : Type 0} (read : List ℕ → Option (A × List ℕ)) (bytes : List ℕ) → bytes ≢ []
    → read bytes ≡ None → many_at read bytes ≡ None
unfolding many_at many_within
many_at_stops read [] some_left is = absurd (some_left refl)
many_at_stops read (b ∷ bytes) some_left is = none_bind (read (b ∷ bytes)) _ is
  where
    none_bind : {B C : Type 0} (o : Option B) (f : B → Option C) → o ≡ None → (o >>= f) ≡ None
    none_bind None f e = refl
    none_bind (Some x) f e = absurd cc

-- The loop's invariant, where front is what it read and bytes what is left: `with_front front (many_at read bytes) ≡
-- all`.

pub goes_on : {A : Type 0} (read : List ℕ → Option (A × List ℕ)) → Shrinks read
    → (front : List A) (bytes : List ℕ) (y : A × List ℕ) → read bytes ≡ Some y
    → with_front (front ++ y.0 ∷ []) (many_at read y.1) ≡ with_front front (many_at read bytes)
goes_on {A = A} read shrinks front bytes y is =
    with_front_push front y.0 (many_at read y.1)
    ∙ ap (λ (o : Option (List A)). with_front front o) (sym (many_at_more read shrinks bytes y is))

pub ends_list : {A : Type 0} (read : List ℕ → Option (A × List ℕ)) (front : List A) (bytes : List ℕ)
    (all : Option (List A)) → bytes ≡ []
    → with_front front (many_at read bytes) ≡ all → all ≡ Some front
ends_list {A = A} read front bytes all none is =
    sym is ∙ ap (λ (w : List ℕ). with_front front (many_at read w)) none
    ∙ ap (λ (o : Option (List A)). with_front front o) (many_at_none read)
    ∙ ap (λ (xs : List A). some xs) (append-nil front)

pub fails_list : {A : Type 0} (read : List ℕ → Option (A × List ℕ)) (front : List A) (bytes : List ℕ)
    (all : Option (List A)) → bytes ≢ [] → read bytes ≡ None
    → with_front front (many_at read bytes) ≡ all → all ≡ None
fails_list {A = A} read front bytes all some_left none is =
    sym is ∙ ap (λ (o : Option (List A)). with_front front o) (many_at_stops read bytes some_left none)

-- ---- what the list says of the text: the texts of its parts, joined

pub record IsReader {A : Type 0} (read : List ℕ → Option (A × List ℕ)) (Is : A → Type 0)
    (text : A → List ℕ) : Type 0 where
  pub takes : (bytes : List ℕ) → IsBytes bytes → (y : A × List ℕ) → read bytes ≡ Some y → Is y.0
      × (bytes ≡ text y.0 ++ y.1)
  pub again : (x : A) (rest : List ℕ) → Is x → read (text x ++ rest) ≡ Some (x, rest)
  pub shrinks : (bytes : List ℕ) (y : A × List ℕ) → read bytes ≡ Some y → length y.1 < length bytes

within_takes : {A : Type 0} (read : List ℕ → Option (A × List ℕ)) (Is : A → Type 0) (text : A → List ℕ)
    → IsReader read Is text
    → (n : ℕ) (bytes : List ℕ) → IsBytes bytes → (xs : List A) → many_within read n bytes ≡ Some xs
    → AreJoined Is text bytes xs
unfolding many_within
within_takes {A = A} read Is text reader n [] fits xs e =
    subst (λ (w : List A). AreJoined Is text [] w) (some_is [] xs e) (record { each = tt; parts = refl })
within_takes read Is text reader zero (b ∷ bytes) fits xs e = absurd cc
within_takes {A = A} read Is text reader (suc n) (b ∷ bytes) fits xs e =
    let first = bind_is (read (b ∷ bytes)) _ xs e in
    let others = bind_is (many_within read n first.0.1) _ xs first.2 in
    let t = reader.takes (b ∷ bytes) fits first.0 first.1 in
    let fits_rest = IsBytes-right (text first.0.0) first.0.1 (subst (λ (w : List ℕ). IsBytes w) t.1 fits) in
    let h = within_takes read Is text reader n first.0.1 fits_rest others.0 others.1 in
    subst (λ (w : List A). AreJoined Is text (b ∷ bytes) w) (some_is _ xs others.2) (record {
      each = (t.0, h.each);
      parts = t.1 ∙ ap (λ (w : List ℕ). text first.0.0 ++ w) h.parts;
    })

pub many_at_takes : {A : Type 0} (read : List ℕ → Option (A × List ℕ)) (Is : A → Type 0) (text : A → List ℕ)
    → IsReader read Is text
    → (bytes : List ℕ) → IsBytes bytes → (xs : List A) → many_at read bytes ≡ Some xs → AreJoined Is text bytes xs
unfolding many_at
many_at_takes read Is text reader bytes fits xs e = within_takes read Is text reader (length bytes) bytes fits xs e

pub many_at_again : {A : Type 0} (read : List ℕ → Option (A × List ℕ)) (Is : A → Type 0) (text : A → List ℕ)
    → IsReader read Is text
    → (bytes : List ℕ) (xs : List A) → AreJoined Is text bytes xs → many_at read bytes ≡ Some xs
many_at_again read Is text reader bytes [] h = ap (λ (w : List ℕ). many_at read w) h.parts ∙ many_at_none read
many_at_again {A = A} read Is text reader bytes (x ∷ xs) h =
    let rest = joined text xs in
    let others = many_at_again read Is text reader rest xs (record { each = h.each.1; parts = refl }) in
    ap (λ (w : List ℕ). many_at read w) h.parts
    ∙ many_at_more read reader.shrinks (text x ++ rest) (x, rest) (reader.again x rest h.each.0)
    ∙ bind_of_some (many_at read rest) _ xs others
