-- The only text of a list, by its first vector.
use Rattle.std.proofs.Common.{◌≡◌, true, false, ℕ, eqb, List, [], ◌∷◌, length, Option, Some, None, Ok, Err, refl, sym}
use Rattle.std.proofs.Common.{ap, ◌∙◌}
use Rattle.std.specs.Prelude.{is_some}
use Rattle.sig_base.specs.OptionSteps.{◌>>=◌}
use Rattle.sig_der.specs.FrontReaders.{many_at}
use Rattle.sig_der.proofs.KeyInfos.{none_left}
use Rattle.sig_der.proofs.ElementLists.{many_at_none, many_at_more, many_at_stops}
use Rattle.sig_timestamp.specs.declared.sct_error.CertificateErrorKind.TheVariants.{LeafSCTMissing}
use Rattle.sig_timestamp.specs.Vectors.{vector_at}
use Rattle.sig_timestamp.specs.Timestamps.{only_one}
use Rattle.sig_timestamp.proofs.VectorLaws.{vector_at_shrinks, is_left}

abbrev Texts : Type 0
Texts = List (List ℕ)

abbrev with_first : List ℕ → Option Texts → Option Texts
with_first x o = o >>= λ xs. Some (x ∷ xs)

more_than_one : (x : List ℕ) (y : List ℕ) (o : Option Texts) → true ≡ is_some (with_first x (with_first y o))
    → Err LeafSCTMissing ≡ only_one (with_first x (with_first y o))
more_than_one x y (Some xs) e = refl
more_than_one x y None e = absurd cc

pub only_none : (list : List ℕ) → true ≡ is_some (many_at vector_at list) → vector_at list ≡ None
    → Err LeafSCTMissing ≡ only_one (many_at vector_at list)
only_none [] are none = sym (ap (λ (o : Option Texts). only_one o) (many_at_none vector_at))
only_none (b ∷ list) are none =
    let no : true ≡ false =
    are ∙ ap (λ (o : Option Texts). is_some o) (many_at_stops vector_at (b ∷ list) (λ e. cc) none) in
    absurd cc

pub only_first : (list : List ℕ) (y : List ℕ × List ℕ) → vector_at list ≡ Some y → true ≡ eqb (length y.1) 0
    → Ok y.0 ≡ only_one (many_at vector_at list)
only_first list y e empty =
    sym (ap (λ (o : Option Texts). only_one o) (many_at_more vector_at vector_at_shrinks list y e
    ∙ ap (λ (w : List ℕ). with_first y.0 (many_at vector_at w)) (none_left y.1 (sym empty))
    ∙ ap (λ (o : Option Texts). with_first y.0 o) (many_at_none vector_at)))

pub only_more : (list : List ℕ) (y : List ℕ × List ℕ) → true ≡ is_some (many_at vector_at list)
    → vector_at list ≡ Some y → false ≡ eqb (length y.1) 0
    → Err LeafSCTMissing ≡ only_one (many_at vector_at list)
only_more list y are e left = by_next (vector_at y.1) refl
  where
    this : many_at vector_at list ≡ with_first y.0 (many_at vector_at y.1)
    this = many_at_more vector_at vector_at_shrinks list y e

    by_next : (o : Option (List ℕ × List ℕ)) → vector_at y.1 ≡ o
        → Err LeafSCTMissing ≡ only_one (many_at vector_at list)
    by_next None none =
        let no : true ≡ false =
        are ∙ ap (λ (o : Option Texts). is_some o)
        (this ∙ ap (λ (o : Option Texts). with_first y.0 o) (many_at_stops vector_at y.1 (is_left y.1 left) none)) in
        absurd cc
    by_next (Some z) some =
        let all : many_at vector_at list ≡ with_first y.0 (with_first z.0 (many_at vector_at z.1)) =
        this ∙ ap (λ (o : Option Texts). with_first y.0 o) (many_at_more vector_at vector_at_shrinks y.1 z some) in
        more_than_one y.0 z.0 (many_at vector_at z.1) (are ∙ ap (λ (o : Option Texts). is_some o) all)
        ∙ sym (ap (λ (o : Option Texts). only_one o) all)
