-- *Attestation*: what a bundle of `cosign` attests of an image, or the first rule that is broken.
use Rattle.std.specs.Prelude.{ℕ, List, Option, Result, Ok}
use Rattle.sig_base.specs.Base64.{base64_text}
use Rattle.sig_base.specs.ResultSteps.{◌>>=◌}
use Rattle.sig_base.specs.declared.error.SigstoreError.{SigstoreError}
use Rattle.sig_bundle.specs.BundleRecord.{bundle_in}
use Rattle.sig_bundle.specs.declared.bundle.Bundle.{Bundle}
use Rattle.sig_bundle.specs.declared.material.TransparencyLogEntry.{TransparencyLogEntry}
use Rattle.sig_dsse.specs.Pae.{pae}
use Rattle.sig_dsse.specs.declared.envelope.DsseEnvelope.{DsseEnvelope}
use Rattle.sig_dsse.specs.declared.envelope.DsseSignature.{DsseSignature}
use Rattle.sig_payload.specs.Bundles.{AcceptsSpki, Keys, readable}
use Rattle.sig_attestation.specs.Body.{body_answer}
use Rattle.sig_attestation.specs.Image.{envelope_in, image_answer}
use Rattle.sig_attestation.specs.Material.{certificate_in, entry_in, material_in, signature_in}
use Rattle.sig_attestation.specs.Vouching.{entry_answer}
use Rattle.sig_attestation.specs.declared.attestation.Attestation.{Attestation}
use Rattle.sig_attestation.specs.declared.attestation.Evidence.{Evidence}
use Rattle.sig_attestation.specs.declared.image.Image.{Image}

abbrev pub evidence_of : DsseEnvelope → DsseSignature → List ℕ → TransparencyLogEntry → Evidence
evidence_of envelope signature certificate entry = record {
  signed = pae envelope.payload_type envelope.payload;
  signature = base64_text signature.sig;
  certificate = certificate;
  entry = entry;
}

-- one signature, one certificate, and one log entry, which the log vouches for, and which is about the signature
unfoldable pub evidence_answer : AcceptsSpki → Option Keys → Bundle → DsseEnvelope → Result Evidence SigstoreError
evidence_answer spki keys bundle envelope = do
  signature ← signature_in envelope.signatures
  material ← material_in bundle.verification_material
  certificate ← certificate_in material.content
  entry ← entry_in material.tlog_entries
  _ ← entry_answer spki keys entry
  _ ← body_answer envelope signature certificate entry.canonicalized_body
  Ok (evidence_of envelope signature certificate entry)

abbrev pub attestation_of : Image → Evidence → Attestation
attestation_of image evidence = record {
  predicate_type = image.predicate_type;
  sha256 = image.sha256;
  signed = evidence.signed;
  signature = evidence.signature;
  certificate = evidence.certificate;
  entry = evidence.entry;
}

abbrev pub attested : AcceptsSpki → Option Keys → List ℕ → Bundle → Result Attestation SigstoreError
attested spki keys source bundle = do
  envelope ← envelope_in bundle.content
  image ← image_answer source envelope
  evidence ← evidence_answer spki keys bundle envelope
  Ok (attestation_of image evidence)

abbrev pub attestation_answer : AcceptsSpki → Option Keys → List ℕ → List ℕ → Result Attestation SigstoreError
attestation_answer spki keys source text = readable (bundle_in text) >>= attested spki keys source
