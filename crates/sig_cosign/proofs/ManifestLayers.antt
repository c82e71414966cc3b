-- The layers of a manifest, descriptor by descriptor.
use Rattle.std.proofs.Common.{◌≡◌, ℕ, List, [], ◌∷◌, ◌++◌, Option, Some, None, refl, sym, ap, subst}
use Rattle.std.proofs.Common.{◌∙◌, option_map, map, suc, ◌+◌, ◌<◌, length, drop, get_or, arith, zero, ◌≤◌}
use Rattle.std.proofs.lemmas.List.{append-nil}
use Rattle.std.proofs.Math.Seq.{drop-cons}
use Rattle.sig_cosign.specs.Layer.{seen_layer}
use Rattle.sig_cosign.specs.declared.signature_layer.SignatureLayer.{SignatureLayer}
use Rattle.sig_cosign.specs.Layer.{Layer}
use Rattle.sig_cosign.specs.Manifest.{AreLayersOf, IsLayerIn, first_with, with_one}
use Rattle.sig_cosign.specs.Trust.{Trust}
use Rattle.sig_cosign.specs.declared.source.ImageLayer.{ImageLayer}
use Rattle.sig_cosign.specs.declared.source.OciDescriptor.{OciDescriptor}

abbrev pub listed : Option SignatureLayer → List SignatureLayer
listed None = []
listed (Some x) = x ∷ []

pub added : (made new : List SignatureLayer) (one : Option SignatureLayer) (x : SignatureLayer) → one ≡ Some x
    → new ≡ made ++ x ∷ [] → new ≡ made ++ listed one
added made new one x is more = more ∙ ap (λ (o : Option SignatureLayer). made ++ listed o) (sym is)

pub unchanged : (made new : List SignatureLayer) (one : Option SignatureLayer) → one ≡ None → new ≡ made
    → new ≡ made ++ listed one
unchanged made new one is same =
    same ∙ sym (append-nil made) ∙ ap (λ (o : Option SignatureLayer). made ++ listed o) (sym is)

module _ (trust : Trust) (source : List ℕ) (layers : List ImageLayer) where
  -- those that are made, with what is meant of the descriptors that are left, are what is meant of all
  pub record AreBuiltUpTo (all left : List OciDescriptor) (made : List Layer) : Type 0 where
    pub forth : (rest : List Layer) → AreLayersOf trust source layers left rest
        → AreLayersOf trust source layers all (made ++ rest)
    pub back : (meant : List Layer) → AreLayersOf trust source layers all meant
        → (rest : List Layer) × (AreLayersOf trust source layers left rest × (meant ≡ made ++ rest))

  pub at_start : (all : List OciDescriptor) → AreBuiltUpTo all all []
  at_start all = record { forth = λ rest are. are; back = λ meant are. (meant, (are, refl)) }

  module _ (all left : List OciDescriptor) (d : OciDescriptor) (made : List Layer) (one : Option Layer)
      (so_far : AreBuiltUpTo all (d ∷ left) made)
      (is : IsLayerIn trust source d (first_with d.digest layers) one)
      (only : (m : Option Layer) → IsLayerIn trust source d (first_with d.digest layers) m → one ≡ m) where
    joined : (one : Option Layer) (made rest : List Layer) → made ++ with_one one rest ≡ (made ++ with_one one []) ++ rest
    joined None [] rest = refl
    joined (Some x) [] rest = refl
    joined one (y ∷ ys) rest = ap (λ (zs : List Layer). y ∷ zs) (joined one ys rest)

    pub turn : AreBuiltUpTo all left (made ++ with_one one [])
    turn = record { forth = forth; back = back }
      where
        forth : (rest : List Layer) → AreLayersOf trust source layers left rest
            → AreLayersOf trust source layers all ((made ++ with_one one []) ++ rest)
        forth rest are =
            subst (λ (ls : List Layer). AreLayersOf trust source layers all ls) (joined one made rest)
            (so_far.forth (with_one one rest) (one, (rest, (is, (are, refl)))))

        back : (meant : List Layer) → AreLayersOf trust source layers all meant
            → (rest : List Layer) × (AreLayersOf trust source layers left rest
            × (meant ≡ (made ++ with_one one []) ++ rest))
        back meant are =
            let found = so_far.back meant are in
            let other = found.1.0 in
            let same : with_one other.0 other.1.0 ≡ with_one one other.1.0 =
            ap (λ (o : Option Layer). with_one o other.1.0) (sym (only other.0 other.1.1.0)) in (
              other.1.0,
              (
                other.1.1.1.0,
                found.1.1 ∙ ap (λ (ls : List Layer). made ++ ls) (other.1.1.1.1 ∙ same) ∙ joined one made other.1.0,
              ),
            )

  -- ---- by index

  seen : (made : List SignatureLayer) (one : Option SignatureLayer)
      → map seen_layer (made ++ listed one) ≡ map seen_layer made ++ with_one (option_map seen_layer one) []
  seen [] None = refl
  seen [] (Some x) = refl
  seen (y ∷ ys) one = ap (λ (zs : List Layer). seen_layer y ∷ zs) (seen ys one)

  module _ (all : List OciDescriptor) (i : ℕ) (d : OciDescriptor) (below : i < length all) (at_i : d ≡ get_or all i d)
      (made : List SignatureLayer) (so_far : AreBuiltUpTo all (drop i all) (map seen_layer made))
      (at : Trust) (same : at ≡ trust) (o : Option ImageLayer) (first : o ≡ first_with d.digest layers)
      (one : Option SignatureLayer) (found : IsLayerIn at source d o (option_map seen_layer one))
      (only : (m : Option Layer) → IsLayerIn at source d o m → option_map seen_layer one ≡ m) where
    split : drop i all ≡ d ∷ drop (i + 1) all
    split =
        let next : suc i ≡ i + 1 = omega arith in
        drop-cons all i d below ∙ ap (λ (x : OciDescriptor). x ∷ drop (suc i) all) (sym at_i)
        ∙ ap (λ (n : ℕ). d ∷ drop n all) next

    moved : (m : Option Layer) → IsLayerIn at source d o m → IsLayerIn trust source d (first_with d.digest layers) m
    moved m is =
        subst (λ (p : Option ImageLayer). IsLayerIn trust source d p m) first
        (subst (λ (t : Trust). IsLayerIn t source d o m) same is)

    back_from : (m : Option Layer) → IsLayerIn trust source d (first_with d.digest layers) m → IsLayerIn at source d o m
    back_from m is =
        subst (λ (t : Trust). IsLayerIn t source d o m) (sym same)
        (subst (λ (p : Option ImageLayer). IsLayerIn trust source d p m) (sym first) is)

    step : AreBuiltUpTo all (drop (i + 1) all) (map seen_layer (made ++ listed one))
    step =
        subst (λ (ls : List Layer). AreBuiltUpTo all (drop (i + 1) all) ls) (sym (seen made one))
        (turn all (drop (i + 1) all) d (map seen_layer made) (option_map seen_layer one)
        (subst (λ (ds : List OciDescriptor). AreBuiltUpTo all ds (map seen_layer made)) split so_far)
        (moved (option_map seen_layer one) found) (λ m is. only m (back_from m is)))

    pub more : (new : List SignatureLayer) → new ≡ made ++ listed one
        → AreBuiltUpTo all (drop (i + 1) all) (map seen_layer new)
    more new is = subst (λ (ls : List SignatureLayer). AreBuiltUpTo all (drop (i + 1) all) (map seen_layer ls)) (sym is) step

  -- ---- at the end

  none_left : (all : List OciDescriptor) (i : ℕ) → length all ≤ i → drop i all ≡ []
  none_left [] zero end = refl
  none_left [] (suc i) end = refl
  none_left (x ∷ xs) zero end = absurd (omega arith)
  none_left (x ∷ xs) (suc i) end = none_left xs i (omega arith)

  module _ (all : List OciDescriptor) (i : ℕ) (end : length all ≤ i) (made : List Layer)
      (so_far : AreBuiltUpTo all (drop i all) made) where
    whole : AreBuiltUpTo all [] made
    whole = subst (λ (ds : List OciDescriptor). AreBuiltUpTo all ds made) (none_left all i end) so_far

    all_found : AreLayersOf trust source layers all made
    all_found =
        subst (λ (ls : List Layer). AreLayersOf trust source layers all ls) (append-nil made) (whole.forth [] refl)

    all_only : (meant : List Layer) → AreLayersOf trust source layers all meant → made ≡ meant
    all_only meant are =
        let found = whole.back meant are in
        sym (found.1.1 ∙ ap (λ (ls : List Layer). made ++ ls) found.1.0 ∙ append-nil made)

-- `at` is the trust by the time that the loop has, and `then` by that of the contract
module _ (at then : Trust) (same : at ≡ then) (source : List ℕ) (layers : List ImageLayer) (all : List OciDescriptor)
    (i : ℕ) (end : length all ≤ i) (made : List Layer) (so_far : AreBuiltUpTo at source layers all (drop i all) made) where
  pub found_all : AreLayersOf then source layers all made
  found_all =
      subst (λ (t : Trust). AreLayersOf t source layers all made) same (all_found at source layers all i end made so_far)

  pub only_all : (meant : List Layer) → AreLayersOf then source layers all meant → made ≡ meant
  only_all meant are =
      all_only at source layers all i end made so_far meant
      (subst (λ (t : Trust). AreLayersOf t source layers all meant) (sym same) are)
