-- *Cosign bundle layer*: the layer of a Sigstore bundle, or the first rule that is broken.
use Rattle.std.specs.Prelude.{◌≡◌, ℕ, ℤ, List, ◌++◌, codes, Option, Some, Result, Ok, Err}
use Rattle.sig_attestation.specs.Attestation.{attestation_answer}
use Rattle.sig_attestation.specs.declared.attestation.Attestation.{Attestation}
use Rattle.sig_base.specs.declared.error.SigstoreError.{SigstoreError}
use Rattle.sig_payload.specs.Signing.{signing_about}
use Rattle.sig_signer.specs.Signer.{Signer}
use Rattle.sig_x509.specs.Issuance.{Accepts}
use Rattle.sig_x509.specs.Pool.{Pool}
use Rattle.sig_cosign.specs.Layer.{Layer}
use Rattle.sig_cosign.specs.Signers.{IsSignerIn}
use Rattle.sig_cosign.specs.Trust.{Trust}
use Rattle.sig_cosign.specs.declared.bundle_content.BundleContent.TheVariants.{SigstoreBundle}

-- what a caller says of the layer: its digest in its registry, and the image's reference
pub record Place : Type 0 where
  pub digest : List ℕ
  pub reference : List ℕ

abbrev pub place_of : List ℕ → List ℕ → Place
place_of digest reference = record { digest = digest; reference = reference }

-- the layer of what a bundle attests
abbrev pub bundle_layer : Place → Attestation → Option Signer → Layer
bundle_layer place a signer = record {
  simple_signing = signing_about a.predicate_type place.reference (codes "sha256:" ++ a.sha256);
  oci_digest = place.digest;
  certificate_signature = signer;
  bundle = Some (SigstoreBundle a.entry);
  signature = Some a.signature;
  raw_data = a.signed;
}

-- with the signer that the certificate names at the time of the entry
abbrev pub IsBundleLayerWith : Accepts → Option Pool → ℤ → Place → Attestation → Layer → Type 0
IsBundleLayerWith accepts pool now place a meant =
    (signer : Option Signer) × IsSignerIn accepts pool a.certificate a.entry.integrated_time now signer
    × (meant ≡ bundle_layer place a signer)

abbrev pub IsBundleLayerFrom : Trust → Place → Result Attestation SigstoreError → Result Layer SigstoreError → Type 0
IsBundleLayerFrom trust place (Err e) meant = meant ≡ Err e
IsBundleLayerFrom trust place (Ok a) (Ok meant) =
    IsBundleLayerWith trust.cert trust.pool trust.now place a meant
IsBundleLayerFrom trust place (Ok a) (Err e) = ⊥

-- the result for a bundle, the digest of an image's manifest, and what a caller says of the layer
abbrev pub IsBundleLayerOf : Trust → Place → List ℕ → List ℕ → Result Layer SigstoreError → Type 0
IsBundleLayerOf trust place source bundle =
    IsBundleLayerFrom trust place (attestation_answer trust.spki trust.keys source bundle)
