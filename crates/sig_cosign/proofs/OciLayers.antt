-- The layer of a descriptor and its bytes: what is returned is what is meant.
use Rattle.std.proofs.Common.{◌≡◌, ℤ, Result, Ok, Err, IfOk, sym, ap, subst}
use Rattle.std.proofs.Common.{inl}
use Rattle.std.specs.Prelude.{IsOkUnless}
use Rattle.sig_base.specs.Answers.{Answers}
use Rattle.sig_base.specs.declared.error.SigstoreError.{SigstoreError}
use Rattle.sig_base.specs.declared.error.SigstoreError.TheVariants.{OutOfMemory}
use Rattle.sig_cosign.specs.Layer.{Layer, seen_layer}
use Rattle.sig_cosign.specs.OciLayer.{IsLayerFrom, IsLayerWith, Parts}
use Rattle.sig_cosign.specs.Trust.{Trust}
use Rattle.sig_cosign.specs.declared.signature_layer.SignatureLayer.{SignatureLayer}
use Rattle.sig_cosign.specs.declared.source.ImageLayer.{ImageLayer}
use Rattle.sig_cosign.specs.declared.source.OciDescriptor.{OciDescriptor}

abbrev Returned : Type 0
Returned = Result SignatureLayer SigstoreError

module _ (trust : Trust) (d : OciDescriptor) (l : ImageLayer) (v : Result Parts SigstoreError) where
  -- ---- the parts are there

  module _ (p : Parts) (is : v ≡ Ok p) (r : Returned) (n : ℤ) (same : n ≡ trust.now)
      (only : (m : Layer) → IsLayerWith trust.cert trust.pool n d l p m → IfOk r (λ made. seen_layer made ≡ m))
      (memory : IsOkUnless r OutOfMemory) where
    pub layer_only : (m : Result Layer SigstoreError) → IsLayerFrom trust d l v m → Answers OutOfMemory seen_layer r m
    layer_only m meant =
        by_meant m (subst (λ (w : Result Parts SigstoreError). IsLayerFrom trust d l w m) is meant)
      where
        by_result : (r : Returned) (x : Layer) → IfOk r (λ made. seen_layer made ≡ x) → IsOkUnless r OutOfMemory
            → Answers OutOfMemory seen_layer r (Ok x)
        by_result (Ok y) x same ran = ap (λ (z : Layer). Ok z) (sym same)
        by_result (Err e) x same ran = inl ran

        by_meant : (m : Result Layer SigstoreError) → IsLayerFrom trust d l (Ok p) m → Answers OutOfMemory seen_layer r m
        by_meant (Ok x) with_it =
            by_result r x (only x (subst (λ (t : ℤ). IsLayerWith trust.cert trust.pool t d l p x) (sym same) with_it)) memory
        by_meant (Err e) with_it = absurd with_it
