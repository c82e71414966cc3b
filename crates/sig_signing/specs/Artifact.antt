-- *Bundle of a signed artifact* (Sigstore bundle format, version 0.2): one certificate as a chain, one log entry, and a
-- signature over an artifact of the digest.
use Rattle.std.specs.Prelude.{ℕ, List, [], ◌∷◌, Some}
use Rattle.sig_bundle.specs.declared.bundle.Bundle.{Bundle}
use Rattle.sig_bundle.specs.declared.bundle.Content.TheVariants.{MessageSignature}
use Rattle.sig_bundle.specs.declared.material.MaterialContent.TheVariants.{X509CertificateChain}
use Rattle.sig_bundle.specs.declared.material.TransparencyLogEntry.{TransparencyLogEntry}
use Rattle.sig_bundle.specs.declared.material.VerificationMaterial.{VerificationMaterial}
use Rattle.sig_checked_bundle.specs.Version.{media_type}
use Rattle.sig_checked_bundle.specs.declared.version.Version.TheVariants.{Bundle0_2}
use Rattle.sig_signing.specs.Signed.{Signed}

abbrev pub material_of : List ℕ → TransparencyLogEntry → VerificationMaterial
material_of cert log_entry = record {
  content = Some (X509CertificateChain (cert ∷ []));
  tlog_entries = log_entry ∷ [];
}

abbrev pub bundle_of : Signed → Bundle
bundle_of signed = record {
  media_type = media_type Bundle0_2;
  verification_material = Some (material_of signed.cert signed.log_entry);
  content = Some (MessageSignature (record {
    signature = signed.signature;
    message_digest = Some signed.input_digest;
  }));
}
