-- The tree of a bundle, object by object, by its rows: every text, integer and bytes value is written, also where it
-- is empty; only what is absent is left out.
use Rattle.std.specs.Prelude.{ℕ, List, [], ◌∷◌, codes, Option, Some, None, option_map}
use Rattle.sig_json.specs.Data.{Data, string}
use Rattle.sig_json.specs.Writing.{TreeMember, object_of, integer_tree, bytes_tree, list_tree}
use Rattle.sig_bundle.specs.declared.bundle.Bundle.{Bundle}
use Rattle.sig_bundle.specs.declared.bundle.Content.{Content}
use Rattle.sig_bundle.specs.declared.bundle.Content.TheVariants as content
use Rattle.sig_bundle.specs.declared.bundle.MessageSignature.{MessageSignature}
use Rattle.sig_bundle.specs.declared.material.KindVersion.{KindVersion}
use Rattle.sig_bundle.specs.declared.material.MaterialContent.{MaterialContent}
use Rattle.sig_bundle.specs.declared.material.MaterialContent.TheVariants as material
use Rattle.sig_bundle.specs.declared.material.ProofFields.{ProofFields}
use Rattle.sig_bundle.specs.declared.material.TransparencyLogEntry.{TransparencyLogEntry}
use Rattle.sig_bundle.specs.declared.material.VerificationMaterial.{VerificationMaterial}
use Rattle.sig_dsse.specs.declared.envelope.DsseEnvelope.{DsseEnvelope}
use Rattle.sig_dsse.specs.declared.envelope.DsseSignature.{DsseSignature}

-- ---- objects with one member

abbrev pub certificate_members : List ℕ → List TreeMember
certificate_members der = (codes "rawBytes", Some (bytes_tree der)) ∷ []

unfoldable pub certificate_tree : List ℕ → Data
certificate_tree der = object_of (certificate_members der)

abbrev pub log_id_members : List ℕ → List TreeMember
log_id_members id = (codes "keyId", Some (bytes_tree id)) ∷ []

unfoldable pub log_id_tree : List ℕ → Data
log_id_tree id = object_of (log_id_members id)

abbrev pub promise_members : List ℕ → List TreeMember
promise_members signature = (codes "signedEntryTimestamp", Some (bytes_tree signature)) ∷ []

unfoldable pub promise_record_tree : List ℕ → Data
promise_record_tree signature = object_of (promise_members signature)

abbrev pub digest_members : List ℕ → List TreeMember
digest_members digest = (codes "digest", Some (bytes_tree digest)) ∷ []

unfoldable pub digest_tree : List ℕ → Data
digest_tree digest = object_of (digest_members digest)

abbrev pub checkpoint_members : List ℕ → List TreeMember
checkpoint_members text = (codes "envelope", Some (string text)) ∷ []

unfoldable pub checkpoint_tree : List ℕ → Data
checkpoint_tree text = object_of (checkpoint_members text)

abbrev pub chain_members : List (List ℕ) → List TreeMember
chain_members chain = (codes "certificates", Some (list_tree certificate_tree chain)) ∷ []

unfoldable pub chain_tree : List (List ℕ) → Data
chain_tree chain = object_of (chain_members chain)

-- ---- an entry of a log

abbrev pub kind_version_members : KindVersion → List TreeMember
kind_version_members k =
    (codes "kind", Some (string k.kind))
    ∷ (codes "version", Some (string k.version))
    ∷ []

unfoldable pub kind_version_tree : KindVersion → Data
kind_version_tree k = object_of (kind_version_members k)

abbrev pub proof_members : ProofFields → List TreeMember
proof_members p =
    (codes "logIndex", Some (integer_tree p.log_index))
    ∷ (codes "rootHash", Some (bytes_tree p.root_hash))
    ∷ (codes "treeSize", Some (integer_tree p.tree_size))
    ∷ (codes "hashes", Some (list_tree bytes_tree p.hashes))
    ∷ (codes "checkpoint", option_map checkpoint_tree p.checkpoint)
    ∷ []

unfoldable pub proof_tree : ProofFields → Data
proof_tree p = object_of (proof_members p)

abbrev pub entry_members : TransparencyLogEntry → List TreeMember
entry_members e =
    (codes "logIndex", Some (integer_tree e.log_index))
    ∷ (codes "logId", option_map log_id_tree e.log_id)
    ∷ (codes "kindVersion", option_map kind_version_tree e.kind_version)
    ∷ (codes "integratedTime", Some (integer_tree e.integrated_time))
    ∷ (codes "inclusionPromise", option_map promise_record_tree e.inclusion_promise)
    ∷ (codes "inclusionProof", option_map proof_tree e.inclusion_proof)
    ∷ (codes "canonicalizedBody", Some (bytes_tree e.canonicalized_body))
    ∷ []

unfoldable pub entry_tree : TransparencyLogEntry → Data
entry_tree e = object_of (entry_members e)

-- ---- the certificates

-- the member of the content's kind
abbrev pub material_content_member : Option MaterialContent → TreeMember
material_content_member None = (codes "publicKey", None)
material_content_member (Some (material.Certificate der)) = (codes "certificate", Some (certificate_tree der))
material_content_member (Some (material.X509CertificateChain chain)) =
    (codes "x509CertificateChain", Some (chain_tree chain))
material_content_member (Some material.PublicKey) = (codes "publicKey", Some (object_of []))

abbrev pub material_members : TreeMember → Data → List TreeMember
material_members content entries =
    content
    ∷ (codes "tlogEntries", Some entries)
    ∷ []

unfoldable pub material_tree : VerificationMaterial → Data
material_tree m = object_of (material_members (material_content_member m.content)
    (list_tree entry_tree m.tlog_entries))

-- ---- the content

abbrev pub message_signature_members : MessageSignature → List TreeMember
message_signature_members m =
    (codes "signature", Some (bytes_tree m.signature))
    ∷ (codes "messageDigest", option_map digest_tree m.message_digest)
    ∷ []

unfoldable pub message_tree : MessageSignature → Data
message_tree m = object_of (message_signature_members m)

abbrev pub signature_members : DsseSignature → List TreeMember
signature_members s =
    (codes "sig", Some (bytes_tree s.sig))
    ∷ (codes "keyid", Some (string s.keyid))
    ∷ []

unfoldable pub dsse_signature_tree : DsseSignature → Data
dsse_signature_tree s = object_of (signature_members s)

abbrev pub envelope_members : DsseEnvelope → List TreeMember
envelope_members e =
    (codes "payload", Some (bytes_tree e.payload))
    ∷ (codes "payloadType", Some (string e.payload_type))
    ∷ (codes "signatures", Some (list_tree dsse_signature_tree e.signatures))
    ∷ []

unfoldable pub envelope_tree : DsseEnvelope → Data
envelope_tree e = object_of (envelope_members e)

-- the member of the content's kind
abbrev pub content_member : Option Content → TreeMember
content_member None = (codes "dsseEnvelope", None)
content_member (Some (content.MessageSignature m)) = (codes "messageSignature", Some (message_tree m))
content_member (Some (content.DsseEnvelope e)) = (codes "dsseEnvelope", Some (envelope_tree e))

-- ---- the bundle

abbrev pub bundle_members : List ℕ → Option Data → TreeMember → List TreeMember
bundle_members media_type material content =
    (codes "mediaType", Some (string media_type))
    ∷ (codes "verificationMaterial", material)
    ∷ content
    ∷ []

unfoldable pub bundle_tree : Bundle → Data
bundle_tree b =
    object_of (bundle_members b.media_type (option_map material_tree b.verification_material)
    (content_member b.content))
