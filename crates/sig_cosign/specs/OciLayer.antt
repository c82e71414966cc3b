-- *Cosign layer*: the layer of a descriptor and its bytes, or the first rule that is broken.
use Rattle.std.specs.Prelude.{◌≡◌, ℕ, ℤ, List, codes, bytes_eq, ◌&&◌, if◌then◌else◌, Option, Some, None, Result, Ok, Err}
use Rattle.std.specs.Option.{ok_or}
use Rattle.sig_base.specs.ByText.{text_lookup}
use Rattle.sig_base.specs.ResultSteps.{◌>>=◌}
use Rattle.sig_base.specs.declared.error.SigstoreError.{SigstoreError}
use Rattle.sig_base.specs.declared.error.SigstoreError.TheVariants.{SigstoreMediaTypeNotFoundError, UnexpectedError}
use Rattle.sig_base.specs.declared.error.SigstoreError.TheVariants.{SigstoreLayerDigestMismatchError}
use Rattle.sig_base.specs.declared.error.SigstoreError.TheVariants.{SigstoreAnnotationNotFoundError}
use Rattle.sig_base.specs.declared.unexpected.UnexpectedKind.TheVariants.{ImageDigest, LayerUnreadable}
use Rattle.sig_payload.specs.Bundles.{AcceptsSpki, Keys, bundle_answer}
use Rattle.sig_payload.specs.Signing.{Signing, signing_of}
use Rattle.sig_payload.specs.declared.bundle.Bundle.{Bundle}
use Rattle.sig_signer.specs.Signer.{Signer}
use Rattle.sig_x509.specs.Issuance.{Accepts}
use Rattle.sig_x509.specs.Pool.{Pool}
use Rattle.sig_cosign.specs.Layer.{Layer}
use Rattle.sig_cosign.specs.Signers.{IsSignerAmong}
use Rattle.sig_cosign.specs.Trust.{Trust}
use Rattle.sig_cosign.specs.Unsigned.{digest_of}
use Rattle.sig_cosign.specs.declared.bundle_content.BundleContent.{BundleContent}
use Rattle.sig_cosign.specs.declared.bundle_content.BundleContent.TheVariants.{RekorBundle}
use Rattle.sig_cosign.specs.declared.oci_layer.Noted.{Noted}
use Rattle.sig_cosign.specs.declared.source.ImageLayer.{ImageLayer}
use Rattle.sig_cosign.specs.declared.source.OciDescriptor.{OciDescriptor}

-- the media type of a payload that `cosign` signed
abbrev pub signing_type : List ℕ
signing_type = codes "application/vnd.dev.cosign.simplesigning.v1+json"

abbrev pub signature_name : List ℕ
signature_name = codes "dev.cosignproject.cosign/signature"

abbrev pub bundle_name : List ℕ
bundle_name = codes "dev.sigstore.cosign/bundle"

-- ---- the rules in order

abbrev pub typed : OciDescriptor → ImageLayer → Result (Unit {0}) SigstoreError
typed descriptor layer =
    if bytes_eq descriptor.media_type signing_type && bytes_eq layer.media_type signing_type then Ok tt
    else Err SigstoreMediaTypeNotFoundError

abbrev pub digested : OciDescriptor → ImageLayer → Result (Unit {0}) SigstoreError
digested descriptor layer =
    if bytes_eq descriptor.digest (digest_of layer.bytes) then Ok tt else Err SigstoreLayerDigestMismatchError

abbrev pub of_image : List ℕ → Signing → Result Signing SigstoreError
of_image source signing =
    if bytes_eq signing.critical.image.docker_manifest_digest source then Ok signing
    else Err (UnexpectedError ImageDigest)

-- the payload, which is of the image
abbrev pub payload_answer : List ℕ → ImageLayer → Result Signing SigstoreError
payload_answer source layer = ok_or (signing_of layer.bytes) (UnexpectedError LayerUnreadable) >>= of_image source

abbrev pub signature_answer : OciDescriptor → Result (List ℕ) SigstoreError
signature_answer descriptor =
    ok_or (text_lookup signature_name descriptor.annotations) SigstoreAnnotationNotFoundError

abbrev pub as_content : Result Bundle SigstoreError → Result (Option BundleContent) SigstoreError
as_content (Ok b) = Ok (Some (RekorBundle b))
as_content (Err e) = Err e

-- what Rekor promised, if it is noted and keys of logs are given
abbrev pub promised : AcceptsSpki → Option Keys → Option (List ℕ) → Result (Option BundleContent) SigstoreError
promised spki keys None = Ok None
promised spki None (Some text) = Ok None
promised spki (Some keys) (Some text) = as_content (bundle_answer spki keys text)

abbrev pub noted_answer : AcceptsSpki → Option Keys → OciDescriptor → Result Noted SigstoreError
noted_answer spki keys descriptor = do
  signature ← signature_answer descriptor
  bundle ← promised spki keys (text_lookup bundle_name descriptor.annotations)
  Ok (record { signature = signature; bundle = bundle })

-- what goes into a layer, except for the certificate
pub record Parts : Type 0 where
  pub signing : Signing
  pub signature : List ℕ
  pub bundle : Option BundleContent

unfoldable pub parts_answer : AcceptsSpki → Option Keys → OciDescriptor → ImageLayer → List ℕ
    → Result Parts SigstoreError
parts_answer spki keys descriptor layer source = do
  _ ← typed descriptor layer
  _ ← digested descriptor layer
  signing ← payload_answer source layer
  noted ← noted_answer spki keys descriptor
  Ok (record { signing = signing; signature = noted.signature; bundle = noted.bundle })

-- ---- the layer

abbrev pub layer_of : OciDescriptor → ImageLayer → Parts → Option Signer → Layer
layer_of descriptor layer parts signer = record {
  simple_signing = parts.signing;
  oci_digest = descriptor.digest;
  certificate_signature = signer;
  bundle = parts.bundle;
  signature = Some parts.signature;
  raw_data = layer.bytes;
}

abbrev pub IsLayerWith : Accepts → Option Pool → ℤ → OciDescriptor → ImageLayer → Parts → Layer → Type 0
IsLayerWith accepts pool now descriptor layer parts meant =
    (signer : Option Signer) × IsSignerAmong accepts pool descriptor.certificate_der parts.bundle now signer
    × (meant ≡ layer_of descriptor layer parts signer)

abbrev pub IsLayerFrom : Trust → OciDescriptor → ImageLayer → Result Parts SigstoreError → Result Layer SigstoreError
    → Type 0
IsLayerFrom trust descriptor layer (Err e) meant = meant ≡ Err e
IsLayerFrom trust descriptor layer (Ok parts) (Ok meant) =
    IsLayerWith trust.cert trust.pool trust.now descriptor layer parts meant
IsLayerFrom trust descriptor layer (Ok parts) (Err e) = ⊥

-- the result for a descriptor, its bytes and the digest of an image's manifest
abbrev pub IsLayerOf : Trust → OciDescriptor → ImageLayer → List ℕ → Result Layer SigstoreError → Type 0
IsLayerOf trust descriptor layer source =
    IsLayerFrom trust descriptor layer (parts_answer trust.spki trust.keys descriptor layer source)
