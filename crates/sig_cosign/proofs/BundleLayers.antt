-- The layer of a Sigstore bundle: what is returned is what is meant.
use Rattle.std.proofs.Common.{◌≡◌, ℤ, Result, Ok, Err, IfOk, sym, ap, subst}
use Rattle.std.proofs.Common.{inl}
use Rattle.std.specs.Prelude.{IsOkUnless}
use Rattle.sig_attestation.specs.declared.attestation.Attestation.{Attestation}
use Rattle.sig_base.specs.Answers.{Answers}
use Rattle.sig_base.specs.declared.error.SigstoreError.{SigstoreError}
use Rattle.sig_base.specs.declared.error.SigstoreError.TheVariants.{OutOfMemory}
use Rattle.sig_cosign.specs.BundleLayer.{IsBundleLayerFrom, IsBundleLayerWith, Place}
use Rattle.sig_cosign.specs.Layer.{Layer, seen_layer}
use Rattle.sig_cosign.specs.Trust.{Trust}
use Rattle.sig_cosign.specs.declared.signature_layer.SignatureLayer.{SignatureLayer}

abbrev Returned : Type 0
Returned = Result SignatureLayer SigstoreError

module _ (trust : Trust) (place : Place) (v : Result Attestation SigstoreError) where
  -- ---- what the bundle attests is there

  module _ (a : Attestation) (is : v ≡ Ok a) (r : Returned) (n : ℤ) (same : n ≡ trust.now)
      (only : (m : Layer) → IsBundleLayerWith trust.cert trust.pool n place a m → IfOk r (λ made. seen_layer made ≡ m))
      (memory : IsOkUnless r OutOfMemory) where
    pub bundle_only : (m : Result Layer SigstoreError) → IsBundleLayerFrom trust place v m
        → Answers OutOfMemory seen_layer r m
    bundle_only m meant =
        by_meant m (subst (λ (w : Result Attestation SigstoreError). IsBundleLayerFrom trust place w m) is meant)
      where
        by_result : (r : Returned) (x : Layer) → IfOk r (λ made. seen_layer made ≡ x) → IsOkUnless r OutOfMemory
            → Answers OutOfMemory seen_layer r (Ok x)
        by_result (Ok y) x same ran = ap (λ (z : Layer). Ok z) (sym same)
        by_result (Err e) x same ran = inl ran

        by_meant : (m : Result Layer SigstoreError) → IsBundleLayerFrom trust place (Ok a) m
            → Answers OutOfMemory seen_layer r m
        by_meant (Ok x) with_it =
            by_result r x (only x (subst (λ (t : ℤ). IsBundleLayerWith trust.cert trust.pool t place a x) (sym same) with_it))
            memory
        by_meant (Err e) with_it = absurd with_it
