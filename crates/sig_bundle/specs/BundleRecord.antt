-- *Records*: a bundle (Sigstore bundle format), object by object: each member with its name, its kind, and what it
-- means where it is absent.
use Rattle.std.specs.Prelude.{ℕ, List, [], ◌∷◌, codes, Option, Some, option_map, Result, ⊤}
use Rattle.sig_base.specs.OptionSteps.{◌>>=◌}
use Rattle.sig_json.specs.CommonRecord.{certificate_of, chain_of, log_id_of}
use Rattle.sig_json.specs.Data.{Data}
use Rattle.sig_json.specs.Find.{as_object}
use Rattle.sig_bundle.specs.Oneof.{oneof}
use Rattle.sig_bundle.specs.declared.bundle.Bundle.{Bundle}
use Rattle.sig_bundle.specs.declared.bundle.Content.{Content}
use Rattle.sig_bundle.specs.declared.bundle.Content.TheVariants as content
use Rattle.sig_bundle.specs.declared.bundle.MessageSignature.{MessageSignature}
use Rattle.sig_bundle.specs.declared.material.KindVersion.{KindVersion}
use Rattle.sig_bundle.specs.declared.material.MaterialContent.{MaterialContent}
use Rattle.sig_bundle.specs.declared.material.MaterialContent.TheVariants as material
use Rattle.sig_bundle.specs.declared.material.ProofFields.{ProofFields}
use Rattle.sig_bundle.specs.declared.material.TransparencyLogEntry.{TransparencyLogEntry}
use Rattle.sig_bundle.specs.declared.material.VerificationMaterial.{VerificationMaterial}
use Rattle.sig_dsse.specs.declared.envelope.DsseEnvelope.{DsseEnvelope}
use Rattle.sig_dsse.specs.declared.envelope.DsseSignature.{DsseSignature}
use Rattle.sig_json.specs.Kinds.{bytes_of}
use Rattle.sig_json.specs.Member.{optional, optional_bytes, optional_i64, optional_list, optional_text}
use Rattle.sig_json.specs.Record.{record_in}
use Rattle.sig_json.specs.declared.error.JsonError.{JsonError}

-- ---- whose signature it is

-- any object, of which nothing is read
abbrev pub key_hint_of : Data → Option ⊤
key_hint_of d = option_map (λ _. tt) (as_object d)

unfoldable pub material_content_of : Data → Option (Option MaterialContent)
material_content_of d = do
  certificate ← optional certificate_of (codes "certificate") d
  chain ← optional chain_of (codes "x509CertificateChain") d
  hint ← optional key_hint_of (codes "publicKey") d
  oneof (option_map material.Certificate certificate ∷ option_map material.X509CertificateChain chain ∷
      option_map (λ _. material.PublicKey) hint ∷ [])

-- ---- an entry of a log

abbrev pub promise_of : Data → Option (List ℕ)
promise_of = optional_bytes (codes "signedEntryTimestamp")

abbrev pub checkpoint_envelope_of : Data → Option (List ℕ)
checkpoint_envelope_of = optional_text (codes "envelope")

unfoldable pub kind_version_of : Data → Option KindVersion
kind_version_of d = do
  kind ← optional_text (codes "kind") d
  version ← optional_text (codes "version") d
  Some (record { kind = kind; version = version })

unfoldable pub proof_of : Data → Option ProofFields
proof_of d = do
  log_index ← optional_i64 (codes "logIndex") d
  root_hash ← optional_bytes (codes "rootHash") d
  tree_size ← optional_i64 (codes "treeSize") d
  hashes ← optional_list bytes_of (codes "hashes") d
  checkpoint ← optional checkpoint_envelope_of (codes "checkpoint") d
  Some (record {
    log_index = log_index;
    root_hash = root_hash;
    tree_size = tree_size;
    hashes = hashes;
    checkpoint = checkpoint;
  })

unfoldable pub entry_of : Data → Option TransparencyLogEntry
entry_of d = do
  log_index ← optional_i64 (codes "logIndex") d
  log_id ← optional log_id_of (codes "logId") d
  kind_version ← optional kind_version_of (codes "kindVersion") d
  integrated_time ← optional_i64 (codes "integratedTime") d
  inclusion_promise ← optional promise_of (codes "inclusionPromise") d
  inclusion_proof ← optional proof_of (codes "inclusionProof") d
  canonicalized_body ← optional_bytes (codes "canonicalizedBody") d
  Some (record {
    log_index = log_index;
    log_id = log_id;
    kind_version = kind_version;
    integrated_time = integrated_time;
    inclusion_promise = inclusion_promise;
    inclusion_proof = inclusion_proof;
    canonicalized_body = canonicalized_body;
  })

unfoldable pub material_of : Data → Option VerificationMaterial
material_of d = do
  content ← material_content_of d
  tlog_entries ← optional_list entry_of (codes "tlogEntries") d
  Some (record { content = content; tlog_entries = tlog_entries })

-- ---- the content

abbrev pub digest_of : Data → Option (List ℕ)
digest_of = optional_bytes (codes "digest")

unfoldable pub message_signature_of : Data → Option MessageSignature
message_signature_of d = do
  signature ← optional_bytes (codes "signature") d
  message_digest ← optional digest_of (codes "messageDigest") d
  Some (record { signature = signature; message_digest = message_digest })

unfoldable pub dsse_signature_of : Data → Option DsseSignature
dsse_signature_of d = do
  sig ← optional_bytes (codes "sig") d
  keyid ← optional_text (codes "keyid") d
  Some (record { sig = sig; keyid = keyid })

unfoldable pub envelope_of : Data → Option DsseEnvelope
envelope_of d = do
  payload ← optional_bytes (codes "payload") d
  payload_type ← optional_text (codes "payloadType") d
  signatures ← optional_list dsse_signature_of (codes "signatures") d
  Some (record { payload = payload; payload_type = payload_type; signatures = signatures })

-- the one of the two that is there
unfoldable pub one_content : Option MessageSignature → Option DsseEnvelope → Option (Option Content)
one_content signature envelope =
    oneof (option_map content.MessageSignature signature ∷ option_map content.DsseEnvelope envelope ∷ [])

unfoldable pub content_of : Data → Option (Option Content)
content_of d = do
  signature ← optional message_signature_of (codes "messageSignature") d
  envelope ← optional envelope_of (codes "dsseEnvelope") d
  one_content signature envelope

-- ---- the bundle

unfoldable pub bundle_of : Data → Option Bundle
bundle_of d = do
  media_type ← optional_text (codes "mediaType") d
  verification_material ← optional material_of (codes "verificationMaterial") d
  content ← content_of d
  Some (record { media_type = media_type; verification_material = verification_material; content = content })

-- the bundle that a text is, or why it is not one
abbrev pub bundle_in : List ℕ → Result Bundle JsonError
bundle_in = record_in bundle_of
