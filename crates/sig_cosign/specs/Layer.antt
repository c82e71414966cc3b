-- *Layer*: a signature over an image, with all that is known of it.
use Rattle.std.specs.Prelude.{ℕ, ℤ, List, Option, option_map}
use Rattle.sig_payload.specs.Signing.{Signing, seen_signing}
use Rattle.sig_signer.specs.Signer.{Signer, seen_signer}
use Rattle.sig_cosign.specs.declared.bundle_content.BundleContent.{BundleContent}
use Rattle.sig_cosign.specs.declared.bundle_content.BundleContent.TheVariants.{RekorBundle, SigstoreBundle}
use Rattle.sig_cosign.specs.declared.signature_layer.SignatureLayer.{SignatureLayer}

pub record Layer : Type 0 where
  pub simple_signing : Signing
  pub oci_digest : List ℕ
  pub certificate_signature : Option Signer
  pub bundle : Option BundleContent
  pub signature : Option (List ℕ)
  pub raw_data : List ℕ

-- the layer that a value of the code is
abbrev pub seen_layer : SignatureLayer → Layer
seen_layer l = record {
  simple_signing = seen_signing l.simple_signing;
  oci_digest = l.oci_digest;
  certificate_signature = option_map seen_signer l.certificate_signature;
  bundle = l.bundle;
  signature = l.signature;
  raw_data = l.raw_data;
}

-- when the log took the entry
abbrev pub time_of : BundleContent → ℤ
time_of (RekorBundle b) = b.payload.integrated_time
time_of (SigstoreBundle e) = e.integrated_time
