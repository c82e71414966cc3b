-- The layer of a descriptor and its bytes, or none: what is returned is what is meant.
use Rattle.std.proofs.Common.{◌≡◌, ℕ, List, Option, Some, None, Result, Ok, Err, IfOk, sym, ap, subst}
use Rattle.std.proofs.Common.{inl, inr, option_map}
use Rattle.sig_base.specs.Answers.{Answers, OrMemory}
use Rattle.sig_base.specs.declared.error.SigstoreError.{SigstoreError}
use Rattle.sig_base.specs.declared.error.SigstoreError.TheVariants.{OutOfMemory}
use Rattle.sig_base.specs.declared.memory.OutOfMemory.{OutOfMemory as RanOut}
use Rattle.sig_cosign.specs.Layer.{Layer, seen_layer}
use Rattle.sig_cosign.specs.Manifest.{IsLayerIf, IsLayerIn}
use Rattle.sig_cosign.specs.OciLayer.{IsLayerOf}
use Rattle.sig_cosign.specs.Signers.{IsNoMemory, IsNoneUnless}
use Rattle.sig_cosign.specs.Trust.{Trust}
use Rattle.sig_cosign.specs.declared.signature_layer.SignatureLayer.{SignatureLayer}
use Rattle.sig_cosign.specs.declared.source.ImageLayer.{ImageLayer}
use Rattle.sig_cosign.specs.declared.source.OciDescriptor.{OciDescriptor}

abbrev Returned : Type 0
Returned = Result (Option SignatureLayer) RanOut

no_memory : (e : SigstoreError) → IsNoMemory e → e ≡ OutOfMemory → ⊥
no_memory e not is = subst (λ (x : SigstoreError). IsNoMemory x) is not

-- `at` is the trust by the time that a call is handed, and `then` by that of the contract
module _ (at then : Trust) (same : at ≡ then) (source : List ℕ) (d : OciDescriptor) (l : ImageLayer) where
  there : (m : Result Layer SigstoreError) → IsLayerOf at d l source m → IsLayerOf then d l source m
  there m is = subst (λ (t : Trust). IsLayerOf t d l source m) same is

  back : (m : Result Layer SigstoreError) → IsLayerOf then d l source m → IsLayerOf at d l source m
  back m is = subst (λ (t : Trust). IsLayerOf t d l source m) (sym same) is

  pub ok_found : (x : SignatureLayer) → IsLayerOf at d l source (Ok (seen_layer x))
      → IsLayerOf then d l source (Ok (seen_layer x))
  ok_found x is = there (Ok (seen_layer x)) is

  pub ok_only : (x : SignatureLayer)
      → ((m : Result Layer SigstoreError) → IsLayerOf at d l source m → Answers OutOfMemory seen_layer (Ok x) m)
      → (meant : Option Layer) → IsLayerIf then source d l meant → Some (seen_layer x) ≡ meant
  ok_only x only (Some s) is = let same = only (Ok s) (back (Ok s) is) in cc
  ok_only x only None is = let wrong = only (Err is.0) (back (Err is.0) is.1) in absurd cc

  module _ (e : SigstoreError) (r : Returned) (none : IfOk r (IsNoneUnless e)) where
    pub err_found : OrMemory OutOfMemory e (IsLayerOf at d l source (Err e))
        → IfOk r (λ s. IsLayerIf then source d l (option_map seen_layer s))
    err_found err = by r none err
      where
        by : (r : Returned) → IfOk r (IsNoneUnless e) → OrMemory OutOfMemory e (IsLayerOf at d l source (Err e))
            → IfOk r (λ s. IsLayerIf then source d l (option_map seen_layer s))
        by (Err ran) none err = tt
        by (Ok s) none (inl memory) = absurd (no_memory e none.1 memory)
        by (Ok None) none (inr is) = (e, there (Err e) is)
        by (Ok (Some s)) none (inr is) = let wrong = none.0 in absurd cc

    pub err_only : ((m : Result Layer SigstoreError) → IsLayerOf at d l source m → Answers OutOfMemory seen_layer (Err e) m)
        → (meant : Option Layer) → IsLayerIf then source d l meant → IfOk r (λ s. option_map seen_layer s ≡ meant)
    err_only only meant is = by r none meant is
      where
        by : (r : Returned) → IfOk r (IsNoneUnless e) → (meant : Option Layer) → IsLayerIf then source d l meant
            → IfOk r (λ s. option_map seen_layer s ≡ meant)
        by (Err ran) none meant is = tt
        by (Ok s) none None is = ap (λ (o : Option SignatureLayer). option_map seen_layer o) none.0
        by (Ok s) none (Some x) is = by_told (only (Ok x) (back (Ok x) is))
          where
            by_told : OrMemory OutOfMemory e (◌≡◌ {A = Result Layer SigstoreError} (Ok x) (Err e))
                → option_map seen_layer s ≡ Some x
            by_told (inl memory) = absurd (no_memory e none.1 memory)
            by_told (inr wrong) = absurd cc

  -- ---- with a layer of the descriptor's digest

  module _ (o : Option ImageLayer) (is_layer : o ≡ Some l) (r : Returned) where
    pub in_found : IfOk r (λ s. IsLayerIf at source d l (option_map seen_layer s))
        → IfOk r (λ s. IsLayerIn then source d o (option_map seen_layer s))
    in_found found = by r found
      where
        moved : (m : Option Layer) → IsLayerIf at source d l m → IsLayerIn then source d o m
        moved m is =
            subst (λ (p : Option ImageLayer). IsLayerIn then source d p m) (sym is_layer)
            (subst (λ (t : Trust). IsLayerIf t source d l m) same is)

        by : (r : Returned) → IfOk r (λ s. IsLayerIf at source d l (option_map seen_layer s))
            → IfOk r (λ s. IsLayerIn then source d o (option_map seen_layer s))
        by (Ok s) is = moved (option_map seen_layer s) is
        by (Err e) is = tt

    pub in_only : ((m : Option Layer) → IsLayerIf at source d l m → IfOk r (λ s. option_map seen_layer s ≡ m))
        → (m : Option Layer) → IsLayerIn then source d o m → IfOk r (λ s. option_map seen_layer s ≡ m)
    in_only only m is =
        only m (subst (λ (t : Trust). IsLayerIf t source d l m) (sym same)
        (subst (λ (p : Option ImageLayer). IsLayerIn then source d p m) is_layer is))
