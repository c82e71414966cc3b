-- The tables of a bundle are those of its records.
use Rattle.std.proofs.Common.{◌≡◌, ℕ, List, [], ◌∷◌, Bool, true, ◌&&◌, Option, Some, None, option_map, codes}
use Rattle.std.proofs.Common.{is_some, refl, ◌∙◌}
use Rattle.std.proofs.Math.Bool.{and_assoc}
use Rattle.sig_json.specs.Data.{Data, null, boolean, number, string, array, object, Members}
use Rattle.sig_json.specs.Find.{as_object}
use Rattle.sig_json.specs.Kinds.{bytes_of, text_of}
use Rattle.sig_json.specs.Member.{list_each, optional}
use Rattle.sig_bundle.specs.BundleRecord.{bundle_of, content_of, digest_of, dsse_signature_of, entry_of, envelope_of}
use Rattle.sig_bundle.specs.BundleRecord.{key_hint_of, material_content_of, material_of, message_signature_of}
use Rattle.sig_bundle.specs.BundleRecord.{one_content}
use Rattle.sig_bundle.specs.declared.bundle.Content.TheVariants.{MessageSignature, DsseEnvelope}
use Rattle.sig_bundle.specs.declared.material.MaterialContent.TheVariants.{Certificate, X509CertificateChain, PublicKey}
use Rattle.sig_json.specs.CommonRecord.{certificate_of, chain_of}
use Rattle.sig_document_fault.proofs.CommonTables.{bytes_is, certificate_is, chain_is, text_is}
use Rattle.sig_document_fault.proofs.EntryTables.{entry_is}
use Rattle.sig_document_fault.proofs.Oneofs.{oneof_there}
use Rattle.sig_document_fault.specs.BundleTable.{bundle_table, digest_table, dsse_signature_table, entry_table}
use Rattle.sig_document_fault.specs.BundleTable.{envelope_table, material_table, message_signature_table}
use Rattle.sig_document_fault.specs.CommonTable.{certificate_table, chain_table}
use Rattle.sig_table.proofs.RecordTables.{elements_table, not_optional, one_member, optional_holds, optional_or_holds}
use Rattle.sig_table.proofs.RecordTables.{optional_there, record_is, some_of-map, step}
use Rattle.sig_table.specs.Kinds.{bytes_table, object_table, text_table}
use Rattle.sig_table.specs.Table.{elements, member_in, oneof_row, optional_row, row_holds}
use Rattle.sig_table.specs.TableOf.{IsTableOf}

-- ---- whose signature it is

key_hint_is : IsTableOf key_hint_of object_table
key_hint_is null = refl
key_hint_is (boolean b) = refl
key_hint_is (number n) = refl
key_hint_is (string s) = refl
key_hint_is (array ds) = refl
key_hint_is (object ms) = refl

-- a member that is read as this is there as the oneof has it
there : {A B : Type 0} → (kind : Data → Option A) (name : List ℕ) (ms : Members) (f : A → B) (read : Option A)
    → optional kind name (object ms) ≡ Some read
    → is_some (member_in name (object ms)) ≡ is_some (option_map f read)
there kind name ms f read is = optional_there kind name ms read is ∙ some_of-map f read

abbrev certificate_holds : Members → Bool
certificate_holds ms = row_holds (optional_row (codes "certificate") certificate_table) (object ms)

abbrev chain_holds : Members → Bool
chain_holds ms = row_holds (optional_row (codes "x509CertificateChain") chain_table) (object ms)

abbrev hint_holds : Members → Bool
hint_holds ms = row_holds (optional_row (codes "publicKey") object_table) (object ms)

abbrev has_one_signer : Members → Bool
has_one_signer ms =
    row_holds (oneof_row (codes "certificate" ∷ codes "x509CertificateChain" ∷ codes "publicKey" ∷ [])) (object ms)

abbrev entries_hold : Members → Bool
entries_hold ms = row_holds (optional_row (codes "tlogEntries") (elements entry_table)) (object ms)

material_content_is : (ms : Members)
    → (certificate_holds ms && (chain_holds ms && (hint_holds ms && has_one_signer ms)))
    ≡ is_some (material_content_of (object ms))
unfolding material_content_of
material_content_is ms =
    step _ _ _ _ (optional_holds certificate_of certificate_table certificate_is (codes "certificate") ms)
    (λ certificate one. step _ _ _ _ (optional_holds chain_of chain_table chain_is (codes "x509CertificateChain") ms)
    (λ chain two. step _ _ _ _ (optional_holds key_hint_of object_table key_hint_is (codes "publicKey") ms)
    (λ hint three. oneof_there (λ name. is_some (member_in name (object ms)))
    ((codes "certificate", option_map Certificate certificate)
    ∷ (codes "x509CertificateChain", option_map X509CertificateChain chain)
    ∷ (codes "publicKey", option_map (λ _. PublicKey) hint) ∷ []) (
      there certificate_of (codes "certificate") ms Certificate certificate one,
      (
        there chain_of (codes "x509CertificateChain") ms X509CertificateChain chain two,
        (there key_hint_of (codes "publicKey") ms (λ _. PublicKey) hint three, tt),
      ),
    ))))

no_material_content : (d : Data) → as_object d ≡ None → material_content_of d ≡ None
unfolding material_content_of
no_material_content d none =
    rw (not_optional None (λ d. option_map Some (certificate_of d)) (codes "certificate") d none) refl

pub material_is : IsTableOf material_of material_table
unfolding material_table material_of
material_is =
    record_is material_of material_table
    (λ ms. regrouped (certificate_holds ms) (chain_holds ms) (hint_holds ms) (has_one_signer ms)
    (entries_hold ms && true) ∙ step _ _ _ _ (material_content_is ms)
    (λ _ _. step _ _ _ _ (optional_or_holds [] (list_each entry_of) (elements entry_table)
    (elements_table entry_of entry_table entry_is) (codes "tlogEntries") ms)
    (λ _ _. refl)))
    (λ d none. rw (no_material_content d none) refl)
    (λ d none. rw none refl)
  where
    regrouped : (a b c o l : Bool) → (a && (b && (c && (o && l)))) ≡ ((a && (b && (c && o))) && l)
    regrouped a b c o l = simp and_assoc

-- ---- the content

pub digest_is : IsTableOf digest_of digest_table
unfolding digest_table
digest_is = one_member [] bytes_of bytes_table bytes_is (codes "digest")

pub message_signature_is : IsTableOf message_signature_of message_signature_table
unfolding message_signature_table message_signature_of
message_signature_is =
    record_is message_signature_of message_signature_table
    (λ ms. step _ _ _ _ (optional_or_holds [] bytes_of bytes_table bytes_is (codes "signature") ms)
    (λ _ _. step _ _ _ _ (optional_holds digest_of digest_table digest_is (codes "messageDigest") ms) (λ _ _. refl)))
    (λ d none. rw (not_optional [] bytes_of (codes "signature") d none) refl)
    (λ d none. rw none refl)

pub dsse_signature_is : IsTableOf dsse_signature_of dsse_signature_table
unfolding dsse_signature_table dsse_signature_of
dsse_signature_is =
    record_is dsse_signature_of dsse_signature_table
    (λ ms. step _ _ _ _ (optional_or_holds [] bytes_of bytes_table bytes_is (codes "sig") ms)
    (λ _ _. step _ _ _ _ (optional_or_holds [] text_of text_table text_is (codes "keyid") ms) (λ _ _. refl)))
    (λ d none. rw (not_optional [] bytes_of (codes "sig") d none) refl)
    (λ d none. rw none refl)

pub envelope_is : IsTableOf envelope_of envelope_table
unfolding envelope_table envelope_of
envelope_is =
    record_is envelope_of envelope_table
    (λ ms. step _ _ _ _ (optional_or_holds [] bytes_of bytes_table bytes_is (codes "payload") ms)
    (λ _ _. step _ _ _ _ (optional_or_holds [] text_of text_table text_is (codes "payloadType") ms)
    (λ _ _. step _ _ _ _ (optional_or_holds [] (list_each dsse_signature_of) (elements dsse_signature_table)
    (elements_table dsse_signature_of dsse_signature_table dsse_signature_is) (codes "signatures") ms)
    (λ _ _. refl))))
    (λ d none. rw (not_optional [] bytes_of (codes "payload") d none) refl)
    (λ d none. rw none refl)

abbrev signature_holds : Members → Bool
signature_holds ms = row_holds (optional_row (codes "messageSignature") message_signature_table) (object ms)

abbrev envelope_holds : Members → Bool
envelope_holds ms = row_holds (optional_row (codes "dsseEnvelope") envelope_table) (object ms)

abbrev has_one_content : Members → Bool
has_one_content ms = row_holds (oneof_row (codes "messageSignature" ∷ codes "dsseEnvelope" ∷ [])) (object ms)

content_is : (ms : Members)
    → (signature_holds ms && (envelope_holds ms && has_one_content ms)) ≡ is_some (content_of (object ms))
unfolding content_of one_content
content_is ms =
    step _ _ _ _ (optional_holds message_signature_of message_signature_table message_signature_is
    (codes "messageSignature") ms)
    (λ signature one. step _ _ _ _ (optional_holds envelope_of envelope_table envelope_is (codes "dsseEnvelope") ms)
    (λ envelope two. oneof_there (λ name. is_some (member_in name (object ms)))
    ((codes "messageSignature", option_map MessageSignature signature)
    ∷ (codes "dsseEnvelope", option_map DsseEnvelope envelope) ∷ []) (
      there message_signature_of (codes "messageSignature") ms MessageSignature signature one,
      (there envelope_of (codes "dsseEnvelope") ms DsseEnvelope envelope two, tt),
    )))

-- ---- the bundle

pub bundle_is : IsTableOf bundle_of bundle_table
unfolding bundle_table bundle_of
bundle_is =
    record_is bundle_of bundle_table
    (λ ms. step _ _ _ _ (optional_or_holds [] text_of text_table text_is (codes "mediaType") ms)
    (λ _ _. step _ _ _ _ (optional_holds material_of material_table material_is (codes "verificationMaterial") ms)
    (λ _ _. regrouped (signature_holds ms) (envelope_holds ms) (has_one_content ms) true
    ∙ step _ _ _ _ (content_is ms) (λ _ _. refl))))
    (λ d none. rw (not_optional [] text_of (codes "mediaType") d none) refl)
    (λ d none. rw none refl)
  where
    regrouped : (a b o l : Bool) → (a && (b && (o && l))) ≡ ((a && (b && o)) && l)
    regrouped a b o l = simp and_assoc
