-- A bundle that has the cause of a refusal is refused so.
use Rattle.std.proofs.Common.{◌≡◌, ◌≢◌, ◌<◌, ℕ, List, [], ◌∷◌, length, Option, Some, None}
use Rattle.std.proofs.Common.{Result, Ok, Err, refl, sym, ap, subst, ◌∙◌}
use Rattle.std.proofs.lemmas.Bool.{lt-ltb}
use Rattle.sig_base.proofs.ResultSteps.{bind_of_ok}
use Rattle.sig_base.specs.ResultSteps.{◌>>=◌}
use Rattle.sig_certificate.specs.Certificate.{Cert}
use Rattle.sig_certificate.specs.Certificates.{AreCertificates}
use Rattle.sig_dsse.proofs.FaultCauses.{faults_have_their_cause}
use Rattle.sig_dsse.specs.Faults.{IsCauseOf}
use Rattle.sig_dsse.specs.declared.envelope.DsseSignature.{DsseSignature}
use Rattle.sig_dsse.specs.declared.recognized.SubjectFault.{SubjectFault}
use Rattle.sig_dsse.specs.declared.recognized.SubjectFault.TheVariants as fault
use Rattle.sig_checked_bundle.specs.Checked.{Checked, checked, IsChecked, IsCheckedWith}
use Rattle.sig_checked_bundle.specs.Content.{ContentWithSignature, signature_among, subject_refusal}
use Rattle.sig_checked_bundle.specs.Content.{digests_in, envelope_content, content_with_signature}
use Rattle.sig_checked_bundle.specs.Profile.{entry_among, lacks, lacks_proof, meets_profile, unless_lacking}
use Rattle.sig_checked_bundle.specs.Refusals.{DemandsProof, HasCertificates, HasContent, HasEncodings, HasEntry}
use Rattle.sig_checked_bundle.specs.Refusals.{HasFewEncodings}
use Rattle.sig_checked_bundle.specs.Refusals.{HasEnvelope, HasMaterial, HasNoRoot, HasSignature, HasStatement}
use Rattle.sig_checked_bundle.specs.Refusals.{HasVersion, IsCause, IsProfileCauseOf, material_under}
use Rattle.sig_checked_bundle.specs.SigningCertificate.{AreRead, IsLeafAmong, IsSigningCertificate}
use Rattle.sig_checked_bundle.specs.SigningCertificate.{leaf_among}
use Rattle.sig_checked_bundle.specs.Version.{version_of, IsMediaType}
use Rattle.sig_bundle.specs.declared.bundle.Bundle.{Bundle}
use Rattle.sig_checked_bundle.specs.declared.bundle_error.BundleErrorKind.{BundleErrorKind}
use Rattle.sig_checked_bundle.specs.declared.bundle_error.BundleErrorKind.TheVariants.{VerificationMaterialMissing}
use Rattle.sig_checked_bundle.specs.declared.bundle_error.BundleErrorKind.TheVariants.{
  VerificationMaterialContentUnsupported,
}
use Rattle.sig_checked_bundle.specs.declared.bundle_error.BundleErrorKind.TheVariants.{CertificateMalformed}
use Rattle.sig_checked_bundle.specs.declared.bundle_error.BundleErrorKind.TheVariants.{TooManyCertificates}
use Rattle.sig_checked_bundle.specs.declared.bundle_error.BundleErrorKind.TheVariants.{CertificatesMissing, NoLeaf}
use Rattle.sig_checked_bundle.specs.declared.bundle_error.BundleErrorKind.TheVariants.{RootInChain, SignatureMissing}
use Rattle.sig_checked_bundle.specs.declared.bundle_error.BundleErrorKind.TheVariants.{DsseInvalidSignatureCount}
use Rattle.sig_checked_bundle.specs.declared.bundle_error.BundleErrorKind.TheVariants.{DssePayloadDecode}
use Rattle.sig_checked_bundle.specs.declared.bundle_error.BundleErrorKind.TheVariants.{DsseTooManySubjects}
use Rattle.sig_checked_bundle.specs.declared.bundle_error.BundleErrorKind.TheVariants.{DsseTooManySubjectDigests}
use Rattle.sig_checked_bundle.specs.declared.bundle_error.BundleErrorKind.TheVariants.{DsseSubjectDigestMalformed}
use Rattle.sig_checked_bundle.specs.declared.bundle_error.BundleErrorKind.TheVariants.{DsseNoRecognizedSubjectDigest}
use Rattle.sig_checked_bundle.specs.declared.bundle_error.BundleErrorKind.TheVariants.{TlogEntry, BundleProfile}
use Rattle.sig_checked_bundle.specs.declared.bundle_error.BundleErrorKind.TheVariants.{OutOfMemory}
use Rattle.sig_checked_bundle.specs.declared.bundle_error.BundleProfileErrorKind.{BundleProfileErrorKind}
use Rattle.sig_checked_bundle.specs.declared.bundle_error.BundleProfileErrorKind.TheVariants.{Bundle01Profile}
use Rattle.sig_checked_bundle.specs.declared.bundle_error.BundleProfileErrorKind.TheVariants.{Bundle02Profile, Unknown}
use Rattle.sig_checked_bundle.specs.declared.bundle_error.Bundle01ProfileErrorKind.TheVariants.{InclusionPromiseMissing}
use Rattle.sig_checked_bundle.specs.declared.bundle_error.Bundle02ProfileErrorKind.TheVariants.{InclusionProofMissing}
use Rattle.sig_checked_bundle.specs.declared.bundle_error.Bundle02ProfileErrorKind.TheVariants.{CheckpointMissing}
use Rattle.sig_checked_bundle.specs.declared.signing_certificate.SigningChain.{SigningChain}
use Rattle.sig_bundle.specs.declared.material.TransparencyLogEntry.{TransparencyLogEntry}
use Rattle.sig_bundle.specs.declared.material.VerificationMaterial.{VerificationMaterial}
use Rattle.sig_checked_bundle.specs.declared.version.Version.{Version}
use Rattle.sig_checked_bundle.specs.declared.version.Version.TheVariants.{Bundle0_1, Bundle0_2, Bundle0_3}
use Rattle.sig_checked_bundle.proofs.Certificates.{a_root-tells}
use Rattle.sig_checked_bundle.proofs.ContentLaws.{content-meant}
use Rattle.sig_checked_bundle.proofs.LeafLaws.{certificate-meant, few-meant}
use Rattle.sig_checked_bundle.proofs.VersionLaws.{version-held, version-meant}

from_material : (b : Bundle) (h : HasMaterial b) (kind : BundleErrorKind) (answer : Result SigningChain BundleErrorKind)
    → IsSigningCertificate h.material.content answer
    → checked b h.material answer ≡ Err kind → IsChecked b (Err kind)
from_material b h kind answer certificate told =
    subst (λ o. IsCheckedWith b o (Err kind)) (sym h.brought) (answer, certificate, sym told)

-- what is made of the encodings that the material holds
from_encodings : (b : Bundle) (h : HasEncodings b) (kind : BundleErrorKind)
    → IsLeafAmong (Some h.encodings) (Err kind) → IsChecked b (Err kind)
from_encodings b h kind told =
    from_material b h.before kind (Err kind)
    (subst (λ (o : Option (List (List ℕ))). IsLeafAmong o (Err kind)) (sym h.held) told) refl

-- what is made of at most 17 encodings
from_few : (b : Bundle) (h : HasFewEncodings b) (kind : BundleErrorKind) (read : Result (List Cert) BundleErrorKind)
    → AreRead h.before.encodings read
    → (read >>= leaf_among) ≡ Err kind → IsChecked b (Err kind)
from_few b h kind read are told =
    from_encodings b h.before kind (few-meant h.before.encodings (Err kind) h.few (read, are, sym told))

many-told : (ders : List (List ℕ)) (count : ℕ) → length ders ≡ count → 17 < count
    → IsLeafAmong (Some ders) (Err (TooManyCertificates count))
many-told ders count is many =
    rw (lt-ltb 17 (length ders) (subst (λ n. 17 < n) (sym is) many)) (ap (λ n. Err (TooManyCertificates n)) (sym is))

from_certificates : (b : Bundle) (h : HasCertificates b) (kind : BundleErrorKind)
    → leaf_among (h.certificate ∷ h.further) ≡ Err kind → IsChecked b (Err kind)
from_certificates b h kind told = from_few b h.before kind (Ok (h.certificate ∷ h.further)) h.read told

-- the certificates of a bundle whose rules hold so far
abbrev chain_under : {b : Bundle} → HasNoRoot b → SigningChain
chain_under h = record { certificate = h.before.before.certificate; further = h.before.before.further }

from_leaf : (b : Bundle) (h : HasNoRoot b) (kind : BundleErrorKind)
    → checked b h.before.before.before.before.before.material (Ok (chain_under h)) ≡ Err kind
    → IsChecked b (Err kind)
from_leaf b h kind told =
    let certificates = h.before.before in
    let encodings = certificates.before.before in
    from_material b encodings.before kind (Ok (chain_under h))
    (certificate-meant encodings.before.material.content certificates.certificate certificates.further (record {
      encodings = encodings.encodings;
      held = encodings.held;
      few = certificates.before.few;
      read = certificates.read;
      may_sign = h.before.may_sign;
      rootless = h.rootless;
    })) told

from_content : (b : Bundle) (h : HasNoRoot b) (kind : BundleErrorKind) → content_with_signature b.content ≡ Err kind
    → IsChecked b (Err kind)
from_content b h kind told = from_leaf b h kind (rw told refl)

from_envelope : (b : Bundle) (h : HasEnvelope b) (kind : BundleErrorKind) → envelope_content h.envelope ≡ Err kind
    → IsChecked b (Err kind)
from_envelope b h kind told = from_content b h.before kind (rw h.held told)

from_payload : (b : Bundle) (h : HasSignature b) (kind : BundleErrorKind)
    → digests_in h.before.envelope.payload ≡ Err kind → IsChecked b (Err kind)
from_payload b h kind told =
    from_envelope b h.before kind (bind_of_ok (signature_among h.before.envelope.signatures) _ h.signature
    (rw h.only refl) ∙ rw told refl)

from_statement : (b : Bundle) (h : HasStatement b) (fault : SubjectFault) → IsCauseOf fault h.statement
    → IsChecked b (Err (subject_refusal fault))
from_statement b h fault cause =
    from_payload b h.before (subject_refusal fault)
    (rw (h.stated, (faults_have_their_cause h.statement fault).1 cause) refl)

-- what is made of the content, after it
abbrev after_content : Bundle → VerificationMaterial → SigningChain → ContentWithSignature
    → Result Checked BundleErrorKind
after_content b material chain content =
    entry_among material.tlog_entries >>= λ entry. meets_profile b.media_type entry >>= λ _. Ok (record {
      certificate = chain.certificate;
      further = chain.further;
      signature = content.signature;
      content = content.content;
      entry = entry;
    })

from_read : (b : Bundle) (h : HasContent b) (kind : BundleErrorKind)
    → after_content b (material_under h) (chain_under h.before)
    (record { signature = h.signature; content = h.kept }) ≡ Err kind
    → IsChecked b (Err kind)
from_read b h kind told =
    from_leaf b h.before kind
    (bind_of_ok (content_with_signature b.content) _ (record { signature = h.signature; content = h.kept })
    (content-meant b.content h.signature h.kept h.read) ∙ told)

from_entry : (b : Bundle) (h : HasEntry b) (kind : BundleErrorKind) → meets_profile b.media_type h.entry ≡ Err kind
    → IsChecked b (Err kind)
from_entry b h kind told =
    from_read b h.before kind (bind_of_ok (entry_among (material_under h.before).tlog_entries) _ h.entry
    (rw h.only refl) ∙ rw told refl)

no-entry : (entries : List TransparencyLogEntry) (count : ℕ) → length entries ≡ count → count ≢ 1
    → entry_among entries ≡ Err (TlogEntry count)
no-entry [] count is other = ap (λ n. Err (TlogEntry n)) is
no-entry (entry ∷ []) count is other = absurd (other (sym is))
no-entry (entry ∷ second ∷ rest) count is other = ap (λ n. Err (TlogEntry n)) is

no-signature : (signatures : List DsseSignature) (count : ℕ) → length signatures ≡ count → count ≢ 1
    → signature_among signatures ≡ Err (DsseInvalidSignatureCount count)
no-signature [] count is other = ap (λ n. Err (DsseInvalidSignatureCount n)) is
no-signature (signature ∷ []) count is other = absurd (other (sym is))
no-signature (signature ∷ second ∷ rest) count is other = ap (λ n. Err (DsseInvalidSignatureCount n)) is

from_version : (b : Bundle) (h : HasVersion b) (kind : BundleErrorKind)
    → unless_lacking (lacks h.version h.before.entry) ≡ Err kind → IsChecked b (Err kind)
from_version b h kind told = from_entry b h.before kind (rw (version-meant b.media_type h.version h.named) told)

no-proof : (version : Version) (entry : TransparencyLogEntry) (kind : BundleErrorKind) → DemandsProof version
    → unless_lacking (lacks_proof entry.inclusion_proof) ≡ Err kind
    → unless_lacking (lacks version entry) ≡ Err kind
no-proof Bundle0_1 entry kind demanded told = absurd demanded
no-proof Bundle0_2 entry kind demanded told = told
no-proof Bundle0_3 entry kind demanded told = told

no-version : (text : List ℕ) (read : Option Version) → version_of text ≡ read
    → ((version : Version) → ¬ IsMediaType text version) → read ≡ None
no-version text None is none = refl
no-version text (Some version) is none = absurd (none version (version-held text version is))

profile-told : (b : Bundle) (kind : BundleProfileErrorKind) → IsProfileCauseOf kind b
    → IsChecked b (Err (BundleProfile kind))
profile-told b (Unknown text) cause =
    from_entry b cause.0 (BundleProfile (Unknown text))
    (rw (no-version b.media_type (version_of b.media_type) refl cause.2)
    (ap (λ t. Err (BundleProfile (Unknown t))) (sym cause.1)))
profile-told b (Bundle01Profile InclusionPromiseMissing) cause =
    from_version b cause.0 (BundleProfile (Bundle01Profile InclusionPromiseMissing)) (rw (cause.1, cause.2) refl)
profile-told b (Bundle02Profile InclusionProofMissing) cause =
    from_version b cause.0 (BundleProfile (Bundle02Profile InclusionProofMissing))
    (no-proof cause.0.version cause.0.before.entry (BundleProfile (Bundle02Profile InclusionProofMissing)) cause.1
    (rw cause.2 refl))
profile-told b (Bundle02Profile CheckpointMissing) cause =
    from_version b cause.0 (BundleProfile (Bundle02Profile CheckpointMissing))
    (no-proof cause.0.version cause.0.before.entry (BundleProfile (Bundle02Profile CheckpointMissing)) cause.1
    (rw (cause.3, cause.4) refl))

pub told : (b : Bundle) (kind : BundleErrorKind) → IsCause kind b → IsChecked b (Err kind)
told b VerificationMaterialMissing cause =
    subst (λ o. IsCheckedWith b o (Err VerificationMaterialMissing)) (sym cause) refl
told b VerificationMaterialContentUnsupported cause =
    from_material b cause.0 VerificationMaterialContentUnsupported (Err VerificationMaterialContentUnsupported)
    (subst (λ (o : Option (List (List ℕ))). IsLeafAmong o (Err VerificationMaterialContentUnsupported)) (sym cause.1)
    refl) refl
told b (TooManyCertificates count) cause =
    from_encodings b cause.0 (TooManyCertificates count) (many-told cause.0.encodings count cause.1 cause.2)
told b (CertificateMalformed index) cause =
    from_few b cause.0 (CertificateMalformed index) (Err (CertificateMalformed index)) (index, refl, cause.1) refl
told b CertificatesMissing cause =
    from_few b cause.0 CertificatesMissing (Ok [])
    (subst (λ (ders : List (List ℕ)). AreCertificates ders []) (sym cause.1) tt) refl
told b (NoLeaf e) cause = from_certificates b cause.0 (NoLeaf e) (rw cause.1 refl)
told b RootInChain cause =
    from_certificates b cause.0.before RootInChain
    (rw (cause.0.may_sign, a_root-tells cause.0.before.further cause.1) refl)
told b SignatureMissing cause = from_content b cause.0 SignatureMissing (rw cause.1 refl)
told b (DsseInvalidSignatureCount count) cause =
    from_envelope b cause.0 (DsseInvalidSignatureCount count)
    (rw (no-signature cause.0.envelope.signatures count cause.1 cause.2) refl)
told b DssePayloadDecode cause = from_payload b cause.0 DssePayloadDecode (rw cause.1 refl)
told b (DsseTooManySubjects count) cause = from_statement b cause.0 (fault.TooManySubjects count) cause.1
told b (DsseTooManySubjectDigests count) cause = from_statement b cause.0 (fault.TooManyDigests count) cause.1
told b (DsseSubjectDigestMalformed name) cause = from_statement b cause.0 (fault.Malformed name) cause.1
told b DsseNoRecognizedSubjectDigest cause = from_statement b cause.0 fault.NoneRecognized cause.1
told b (TlogEntry count) cause =
    from_read b cause.0 (TlogEntry count)
    (rw (no-entry (material_under cause.0).tlog_entries count cause.1 cause.2) refl)
told b (BundleProfile kind) cause = profile-told b kind cause
told b OutOfMemory cause = absurd cause
