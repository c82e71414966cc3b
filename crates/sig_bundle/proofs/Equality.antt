-- The derived `==` of bundles and their parts is equality of all parts.
-- An equality is a path from one side to the other; the path of a record is the record of the paths of its parts.
use Rattle.std.proofs.Common.{◌≡◌, IsTrue, refl, ap}
use Rattle.std.proofs.lemmas.Slice.Eq.{slice_eq-Decides}
use Rattle.std.specs.Bool.{Decides}
use Rattle.std.proofs.lemmas.Bool.Decides.{Decides-and}
use Rattle.sig_base.proofs.PartEquality.{decides_option, decides_texts}
use Rattle.sig_base.proofs.Decisions.{decides_same, decides_bytes}
use Rattle.sig_dsse.proofs.Equality.{envelope_eq-tells}
use Rattle.sig_bundle.specs.EntryEqualityProofs.{entry_eq-tells}
use Rattle.sig_bundle.specs.contracts.bundle.BundlePartialEq.TheImpl as whole_eq
use Rattle.sig_bundle.specs.contracts.bundle.ContentPartialEq.TheImpl as content_eq
use Rattle.sig_bundle.specs.contracts.bundle.MessageSignaturePartialEq.TheImpl as message_eq
use Rattle.sig_bundle.specs.contracts.material.MaterialContentPartialEq.TheImpl as signer_eq
use Rattle.sig_bundle.specs.contracts.material.VerificationMaterialPartialEq.TheImpl as material_eq
use Rattle.sig_bundle.specs.contracts.material.TransparencyLogEntryPartialEq.TheImpl as entry_eq
use Rattle.sig_bundle.specs.declared.bundle.Bundle.{Bundle}
use Rattle.sig_bundle.specs.declared.bundle.Content.{Content}
use Rattle.sig_bundle.specs.declared.bundle.Content.TheVariants as content
use Rattle.sig_bundle.specs.declared.bundle.MessageSignature.{MessageSignature}
use Rattle.sig_bundle.specs.declared.material.MaterialContent.{MaterialContent}
use Rattle.sig_bundle.specs.declared.material.MaterialContent.TheVariants.{Certificate, X509CertificateChain}
use Rattle.sig_bundle.specs.declared.material.MaterialContent.TheVariants.{PublicKey}
use Rattle.sig_bundle.specs.declared.material.TransparencyLogEntry.{TransparencyLogEntry}
use Rattle.sig_bundle.specs.declared.material.VerificationMaterial.{VerificationMaterial}

-- an entry that is equal to another by its `==` is that entry
pub entry_same-held : (a b : TransparencyLogEntry) → IsTrue ((entry_eq.ghosts).eq a b) → a ≡ b
entry_same-held a b = (entry_eq-tells a b).0

pub ruleset entry_same = (entry_same-held)

-- ---- what a bundle brings

pub signer_eq-tells : (a b : MaterialContent) → Decides ((signer_eq.ghosts).eq a b) (a ≡ b)
signer_eq-tells (Certificate x) (Certificate y) = decides_same _ (λ e. ap Certificate e) (λ e. cc) (decides_bytes x y)
signer_eq-tells (Certificate x) (X509CertificateChain y) = (λ e. absurd cc, λ e. absurd cc)
signer_eq-tells (Certificate x) PublicKey = (λ e. absurd cc, λ e. absurd cc)
signer_eq-tells (X509CertificateChain x) (X509CertificateChain y) =
    decides_same _ (λ e. ap X509CertificateChain e) (λ e. cc) (decides_texts x y)
signer_eq-tells (X509CertificateChain x) (Certificate y) = (λ e. absurd cc, λ e. absurd cc)
signer_eq-tells (X509CertificateChain x) PublicKey = (λ e. absurd cc, λ e. absurd cc)
signer_eq-tells PublicKey PublicKey = (λ e. refl, λ e. refl)
signer_eq-tells PublicKey (Certificate y) = (λ e. absurd cc, λ e. absurd cc)
signer_eq-tells PublicKey (X509CertificateChain y) = (λ e. absurd cc, λ e. absurd cc)

pub material_eq-tells : (a b : VerificationMaterial) → Decides ((material_eq.ghosts).eq a b) (a ≡ b)
material_eq-tells a b =
    decides_same _ (λ e i. record { content = e.0 i; tlog_entries = e.1 i }) (λ e. rw e (refl, refl))
    (Decides-and _ _ (decides_option _ signer_eq-tells a.content b.content)
    (slice_eq-Decides entry_eq-tells a.tlog_entries b.tlog_entries _ refl))

-- ---- the content

pub message_eq-tells : (a b : MessageSignature) → Decides ((message_eq.ghosts).eq a b) (a ≡ b)
message_eq-tells a b =
    decides_same _ (λ e i. record { signature = e.0 i; message_digest = e.1 i }) (λ e. rw e (refl, refl))
    (Decides-and _ _ (decides_bytes a.signature b.signature)
    (decides_option _ decides_bytes a.message_digest b.message_digest))

pub content_eq-tells : (a b : Content) → Decides ((content_eq.ghosts).eq a b) (a ≡ b)
content_eq-tells (content.MessageSignature x) (content.MessageSignature y) =
    decides_same _ (λ e. ap content.MessageSignature e) (λ e. cc) (message_eq-tells x y)
content_eq-tells (content.MessageSignature x) (content.DsseEnvelope y) = (λ e. absurd cc, λ e. absurd cc)
content_eq-tells (content.DsseEnvelope x) (content.MessageSignature y) = (λ e. absurd cc, λ e. absurd cc)
content_eq-tells (content.DsseEnvelope x) (content.DsseEnvelope y) =
    decides_same _ (λ e. ap content.DsseEnvelope e) (λ e. cc) (envelope_eq-tells x y)

-- ---- the bundle

pub bundle_eq-tells : (a b : Bundle) → Decides ((whole_eq.ghosts).eq a b) (a ≡ b)
bundle_eq-tells a b =
    decides_same _ (λ e i. record { media_type = e.0 i; verification_material = e.1.0 i; content = e.1.1 i })
    (λ e. rw e (refl, (refl, refl)))
    (Decides-and _ _ (decides_bytes a.media_type b.media_type)
    (Decides-and _ _ (decides_option _ material_eq-tells a.verification_material b.verification_material)
    (decides_option _ content_eq-tells a.content b.content)))
