-- Certificates, verification material, signatures and envelopes are read back, record by record.
use Rattle.std.proofs.Common.{◌≡◌, ℕ, List, [], Option, Some, None, option_map, refl}
use Rattle.std.specs.Prelude.{codes}
use Rattle.sig_json.specs.Data.{Data}
use Rattle.sig_json.specs.CommonRecord.{certificate_of, chain_of}
use Rattle.sig_bundle.specs.BundleRecord.{bundle_of, content_of, digest_of, entry_of}
use Rattle.sig_bundle.specs.BundleRecord.{envelope_of, key_hint_of, material_of, message_signature_of, one_content}
use Rattle.sig_bundle.specs.BundleRecord.{dsse_signature_of, material_content_of}
use Rattle.sig_bundle.specs.BundleTree.{bundle_members, bundle_tree, certificate_members, certificate_tree}
use Rattle.sig_bundle.specs.BundleTree.{chain_members}
use Rattle.sig_bundle.specs.BundleTree.{chain_tree, content_member, digest_members, digest_tree, entry_tree}
use Rattle.sig_bundle.specs.BundleTree.{envelope_members}
use Rattle.sig_bundle.specs.BundleTree.{envelope_tree, material_members, material_tree, message_signature_members}
use Rattle.sig_bundle.specs.BundleTree.{message_tree, signature_members, dsse_signature_tree, material_content_member}
use Rattle.sig_bundle.specs.ReadBack.{MaterialContentIsRead, ContentIsRead}
use Rattle.sig_json.specs.Writing.{object_of, bytes_tree, list_tree, IsReadAs, OptionIsRead}
use Rattle.sig_bundle.specs.declared.bundle.Bundle.{Bundle}
use Rattle.sig_bundle.specs.declared.bundle.Content.{Content}
use Rattle.sig_bundle.specs.declared.bundle.Content.TheVariants as content
use Rattle.sig_bundle.specs.declared.bundle.MessageSignature.{MessageSignature}
use Rattle.sig_bundle.specs.declared.material.MaterialContent.{MaterialContent}
use Rattle.sig_bundle.specs.declared.material.MaterialContent.TheVariants as material
use Rattle.sig_bundle.specs.declared.material.TransparencyLogEntry.{TransparencyLogEntry}
use Rattle.sig_bundle.specs.declared.material.VerificationMaterial.{VerificationMaterial}
use Rattle.sig_dsse.specs.declared.envelope.DsseEnvelope.{DsseEnvelope}
use Rattle.sig_dsse.specs.declared.envelope.DsseSignature.{DsseSignature}
use Rattle.sig_bundle.proofs.FoundMembers.{found, found_option}
use Rattle.sig_bundle.proofs.EntryReadings.{text_back}
use Rattle.sig_json.specs.Kinds.{bytes_of, text_of}
use Rattle.sig_json.specs.Member.{list_each, optional, optional_or}

pub certificate_back : (der : List ℕ) → IsReadAs bytes_of (bytes_tree der) der
    → IsReadAs certificate_of (certificate_tree der) der
unfolding certificate_tree
certificate_back der back =
    (found [] bytes_of (codes "rawBytes") (certificate_members der) (bytes_tree der) der refl back, refl)

pub digest_back : (digest : List ℕ) → IsReadAs bytes_of (bytes_tree digest) digest
    → IsReadAs digest_of (digest_tree digest) digest
unfolding digest_tree
digest_back digest back =
    (found [] bytes_of (codes "digest") (digest_members digest) (bytes_tree digest) digest refl back, refl)

pub chain_back : (chain : List (List ℕ))
    → IsReadAs (list_each certificate_of) (list_tree certificate_tree chain) chain
    → IsReadAs chain_of (chain_tree chain) chain
unfolding chain_tree
chain_back chain back = (
  found [] (list_each certificate_of) (codes "certificates") (chain_members chain) (list_tree certificate_tree chain)
      chain refl back,
  refl,
)

signer_back : (o : Option MaterialContent) (entries : Data) → MaterialContentIsRead o
    → material_content_of (object_of (material_members (material_content_member o) entries)) ≡ Some o
unfolding material_content_of
signer_back None entries back =
    let rows = material_members (material_content_member None) entries in
    rw (
      found_option certificate_of certificate_tree (codes "certificate") rows None refl tt,
      found_option chain_of chain_tree (codes "x509CertificateChain") rows None refl tt,
      found_option key_hint_of (λ _. object_of []) (codes "publicKey") rows None refl tt,
    ) refl
signer_back (Some (material.Certificate der)) entries back =
    let rows = material_members (material_content_member (Some (material.Certificate der))) entries in
    rw (
      found_option certificate_of certificate_tree (codes "certificate") rows (Some der) refl back,
      found_option chain_of chain_tree (codes "x509CertificateChain") rows None refl tt,
      found_option key_hint_of (λ _. object_of []) (codes "publicKey") rows None refl tt,
    ) refl
signer_back (Some (material.X509CertificateChain chain)) entries back =
    let rows = material_members (material_content_member (Some (material.X509CertificateChain chain))) entries in
    rw (
      found_option certificate_of certificate_tree (codes "certificate") rows None refl tt,
      found_option chain_of chain_tree (codes "x509CertificateChain") rows (Some chain) refl back,
      found_option key_hint_of (λ _. object_of []) (codes "publicKey") rows None refl tt,
    ) refl
signer_back (Some material.PublicKey) entries back =
    let rows = material_members (material_content_member (Some material.PublicKey)) entries in
    rw (
      found_option certificate_of certificate_tree (codes "certificate") rows None refl tt,
      found_option chain_of chain_tree (codes "x509CertificateChain") rows None refl tt,
      found_option key_hint_of (λ _. object_of []) (codes "publicKey") rows (Some tt) refl (refl, refl),
    ) refl

entries_found : (o : Option MaterialContent) (entries : Data) (xs : List TransparencyLogEntry)
    → IsReadAs (list_each entry_of) entries xs
    → optional_or [] (list_each entry_of) (codes "tlogEntries")
    (object_of (material_members (material_content_member o) entries)) ≡ Some xs
entries_found None entries xs back =
    found [] (list_each entry_of) (codes "tlogEntries")
    (material_members (material_content_member None) entries) entries xs
    refl back
entries_found (Some (material.Certificate der)) entries xs back =
    found [] (list_each entry_of) (codes "tlogEntries")
    (material_members (material_content_member (Some (material.Certificate der))) entries) entries xs refl back
entries_found (Some (material.X509CertificateChain chain)) entries xs back =
    found [] (list_each entry_of) (codes "tlogEntries")
    (material_members (material_content_member (Some (material.X509CertificateChain chain))) entries) entries xs refl
    back
entries_found (Some material.PublicKey) entries xs back =
    found [] (list_each entry_of) (codes "tlogEntries")
    (material_members (material_content_member (Some material.PublicKey)) entries) entries xs refl back

pub material_back : (m : VerificationMaterial) → MaterialContentIsRead m.content
    → IsReadAs (list_each entry_of) (list_tree entry_tree m.tlog_entries) m.tlog_entries
    → IsReadAs material_of (material_tree m) m
unfolding material_tree material_of
material_back m signer entries = (
  rw (
    signer_back m.content (list_tree entry_tree m.tlog_entries) signer,
    entries_found m.content
        (list_tree entry_tree m.tlog_entries) m.tlog_entries entries,
  ) refl,
  refl,
)

-- ---- the content

pub message_signature_back : (m : MessageSignature) → IsReadAs bytes_of (bytes_tree m.signature) m.signature
    → OptionIsRead digest_of digest_tree m.message_digest → IsReadAs message_signature_of (message_tree m) m
unfolding message_tree message_signature_of
message_signature_back m signature digest = (
  rw (
    found [] bytes_of (codes "signature") (message_signature_members m) _ m.signature refl signature,
    found_option digest_of digest_tree (codes "messageDigest")
        (message_signature_members m) m.message_digest refl digest,
  ) refl,
  refl,
)

pub signature_back : (s : DsseSignature) → IsReadAs bytes_of (bytes_tree s.sig) s.sig
    → IsReadAs dsse_signature_of (dsse_signature_tree s) s
unfolding dsse_signature_tree dsse_signature_of
signature_back s sig = (
  rw (
    found [] bytes_of (codes "sig") (signature_members s) _ s.sig refl sig,
    found [] text_of (codes "keyid") (signature_members s) _ s.keyid refl (text_back s.keyid),
  ) refl,
  refl,
)

pub envelope_back : (e : DsseEnvelope) → IsReadAs bytes_of (bytes_tree e.payload) e.payload
    → IsReadAs (list_each dsse_signature_of) (list_tree dsse_signature_tree e.signatures) e.signatures
    → IsReadAs envelope_of (envelope_tree e) e
unfolding envelope_tree envelope_of
envelope_back e payload signatures = (
  rw (
    found [] bytes_of (codes "payload") (envelope_members e) _ e.payload refl payload,
    found [] text_of (codes "payloadType") (envelope_members e) _ e.payload_type refl (text_back e.payload_type),
    found [] (list_each dsse_signature_of) (codes "signatures") (envelope_members e) _ e.signatures refl signatures,
  ) refl,
  refl,
)

-- ---- the bundle

content_back : (media_type : List ℕ) (o : Option VerificationMaterial) (c : Option Content) → ContentIsRead c
    → content_of (object_of (bundle_members media_type (option_map material_tree o) (content_member c))) ≡ Some c
unfolding content_of one_content
content_back media_type o None back =
    let rows = bundle_members media_type (option_map material_tree o) (content_member None) in
    rw (
      found_option message_signature_of message_tree (codes "messageSignature") rows None refl tt,
      found_option envelope_of envelope_tree (codes "dsseEnvelope") rows None refl tt,
    ) refl
content_back media_type o (Some (content.MessageSignature m)) back =
    let rows = bundle_members media_type (option_map material_tree o)
    (content_member (Some (content.MessageSignature m))) in
    rw (
      found_option message_signature_of message_tree (codes "messageSignature") rows (Some m) refl back,
      found_option envelope_of envelope_tree (codes "dsseEnvelope") rows None refl tt,
    ) refl
content_back media_type o (Some (content.DsseEnvelope e)) back =
    let rows = bundle_members media_type (option_map material_tree o)
    (content_member (Some (content.DsseEnvelope e))) in
    rw (
      found_option message_signature_of message_tree (codes "messageSignature") rows None refl tt,
      found_option envelope_of envelope_tree (codes "dsseEnvelope") rows (Some e) refl back,
    ) refl

-- the members beside the content, which no member of the content's name hides
media_type_found : (media_type : List ℕ) (material : Option Data) (c : Option Content)
    → optional_or [] text_of (codes "mediaType") (object_of (bundle_members media_type material (content_member c)))
    ≡ Some media_type
media_type_found media_type material None =
    found [] text_of (codes "mediaType") (bundle_members media_type material (content_member None)) _ media_type refl
    (text_back media_type)
media_type_found media_type material (Some (content.MessageSignature m)) =
    found [] text_of (codes "mediaType") (bundle_members media_type material
    (content_member (Some (content.MessageSignature m)))) _ media_type refl (text_back media_type)
media_type_found media_type material (Some (content.DsseEnvelope e)) =
    found [] text_of (codes "mediaType") (bundle_members media_type material
    (content_member (Some (content.DsseEnvelope e)))) _ media_type refl (text_back media_type)

material_found : (media_type : List ℕ) (o : Option VerificationMaterial) (c : Option Content)
    → OptionIsRead material_of material_tree o
    → optional material_of (codes "verificationMaterial")
    (object_of (bundle_members media_type (option_map material_tree o) (content_member c))) ≡ Some o
material_found media_type o None back =
    found_option material_of material_tree (codes "verificationMaterial")
    (bundle_members media_type (option_map material_tree o) (content_member None)) o refl back
material_found media_type o (Some (content.MessageSignature m)) back =
    found_option material_of material_tree (codes "verificationMaterial")
    (bundle_members media_type (option_map material_tree o) (content_member (Some (content.MessageSignature m)))) o
    refl back
material_found media_type o (Some (content.DsseEnvelope e)) back =
    found_option material_of material_tree (codes "verificationMaterial")
    (bundle_members media_type (option_map material_tree o) (content_member (Some (content.DsseEnvelope e)))) o refl
    back

pub bundle_back : (b : Bundle) → OptionIsRead material_of material_tree b.verification_material
    → ContentIsRead b.content → bundle_of (bundle_tree b) ≡ Some b
unfolding bundle_tree bundle_of
bundle_back b material signed =
    rw (
      media_type_found b.media_type (option_map material_tree b.verification_material) b.content,
      material_found b.media_type b.verification_material b.content material,
      content_back b.media_type b.verification_material b.content signed,
    ) refl

pub ruleset back = (
  certificate_back,
  digest_back,
  chain_back,
  material_back,
  message_signature_back,
  signature_back,
  envelope_back,
  bundle_back,
)
