-- A refusal of a bundle's own checks has its cause.
use Rattle.std.proofs.Common.{◌≡◌, inl, inr, ℕ, List, [], ◌∷◌, length, Bool, true, false, Option, Some, None}
use Rattle.std.proofs.Common.{Result, Ok, Err, refl, sym, ap, subst, ◌∙◌, arith}
use Rattle.std.proofs.lemmas.Bool.{ltb-false, ltb-true}
use Rattle.std.specs.Prelude.{nat_lt, if◌then◌else◌}
use Rattle.std.specs.List.{list_any}
use Rattle.sig_base.proofs.ResultSteps.{bind_err, err_is}
use Rattle.sig_base.specs.ResultSteps.{◌>>=◌}
use Rattle.sig_certificate.specs.Certificate.{Cert}
use Rattle.sig_certificate.specs.Certificates.{AreCertificates}
use Rattle.sig_certificate.specs.Profile.{leaf_refusal}
use Rattle.sig_certificate.specs.declared.profile_error.CertificateValidationError.{CertificateValidationError}
use Rattle.sig_dsse.proofs.FaultCauses.{faults_have_their_cause}
use Rattle.sig_dsse.specs.Faults.{IsCauseOf}
use Rattle.sig_dsse.specs.Recognized.{digests_or_fault}
use Rattle.sig_dsse.specs.Statement.{Statement, statement_of}
use Rattle.sig_dsse.specs.declared.artifact_digest.ArtifactDigest.{ArtifactDigest}
use Rattle.sig_dsse.specs.declared.envelope.DsseSignature.{DsseSignature}
use Rattle.sig_dsse.specs.declared.recognized.SubjectFault.{SubjectFault}
use Rattle.sig_dsse.specs.declared.recognized.SubjectFault.TheVariants as fault
use Rattle.sig_checked_bundle.specs.Checked.{Checked, checked, IsCheckedWith}
use Rattle.sig_checked_bundle.specs.Content.{ContentWithSignature, signature_among, statement_or_refusal}
use Rattle.sig_checked_bundle.specs.Content.{subject_refusal, under_bundle_names, digests_in, envelope_content}
use Rattle.sig_checked_bundle.specs.Content.{content_with_signature}
use Rattle.sig_checked_bundle.specs.Passed.{HoldsLeaf}
use Rattle.sig_checked_bundle.specs.Profile.{entry_among, lacks, lacks_checkpoint, lacks_promise, lacks_proof}
use Rattle.sig_checked_bundle.specs.Profile.{meets_profile, meets_version, unless_lacking}
use Rattle.sig_checked_bundle.specs.Refusals.{DemandsProof, HasCertificates, HasContent, HasEncodings, HasEntry}
use Rattle.sig_checked_bundle.specs.Refusals.{HasFewEncodings}
use Rattle.sig_checked_bundle.specs.Refusals.{HasEnvelope, HasMaterial, HasNoRoot, HasSignature, HasStatement}
use Rattle.sig_checked_bundle.specs.Refusals.{HasVersion, IsCause, material_under}
use Rattle.sig_checked_bundle.specs.SigningCertificate.{AreRead, IsLeafAmong, IsLeafUnlessMany, IsSigningCertificate}
use Rattle.sig_checked_bundle.specs.SigningCertificate.{encodings_in, is_root, leaf_among, leaf_or_refusal}
use Rattle.sig_checked_bundle.specs.Version.{version_of}
use Rattle.sig_bundle.specs.declared.bundle.Bundle.{Bundle}
use Rattle.sig_bundle.specs.declared.bundle.Content.{Content}
use Rattle.sig_bundle.specs.declared.bundle.Content.TheVariants.{MessageSignature, DsseEnvelope}
use Rattle.sig_checked_bundle.specs.declared.bundle_error.BundleErrorKind.{BundleErrorKind}
use Rattle.sig_checked_bundle.specs.declared.bundle_error.BundleErrorKind.TheVariants.{VerificationMaterialMissing}
use Rattle.sig_checked_bundle.specs.declared.bundle_error.BundleErrorKind.TheVariants.{
  VerificationMaterialContentUnsupported,
}
use Rattle.sig_checked_bundle.specs.declared.bundle_error.BundleErrorKind.TheVariants.{CertificateMalformed}
use Rattle.sig_checked_bundle.specs.declared.bundle_error.BundleErrorKind.TheVariants.{TooManyCertificates}
use Rattle.sig_checked_bundle.specs.declared.bundle_error.BundleErrorKind.TheVariants.{CertificatesMissing, NoLeaf}
use Rattle.sig_checked_bundle.specs.declared.bundle_error.BundleErrorKind.TheVariants.{RootInChain, SignatureMissing}
use Rattle.sig_checked_bundle.specs.declared.bundle_error.BundleErrorKind.TheVariants.{DsseInvalidSignatureCount}
use Rattle.sig_checked_bundle.specs.declared.bundle_error.BundleErrorKind.TheVariants.{DssePayloadDecode, TlogEntry}
use Rattle.sig_checked_bundle.specs.declared.bundle_error.BundleErrorKind.TheVariants.{BundleProfile}
use Rattle.sig_checked_bundle.specs.declared.bundle_error.BundleProfileErrorKind.TheVariants.{Bundle01Profile}
use Rattle.sig_checked_bundle.specs.declared.bundle_error.BundleProfileErrorKind.TheVariants.{Bundle02Profile, Unknown}
use Rattle.sig_checked_bundle.specs.declared.bundle_error.Bundle01ProfileErrorKind.TheVariants.{InclusionPromiseMissing}
use Rattle.sig_checked_bundle.specs.declared.bundle_error.Bundle02ProfileErrorKind.TheVariants.{InclusionProofMissing}
use Rattle.sig_checked_bundle.specs.declared.bundle_error.Bundle02ProfileErrorKind.TheVariants.{CheckpointMissing}
use Rattle.sig_checked_bundle.specs.declared.signing_certificate.SigningChain.{SigningChain}
use Rattle.sig_bundle.specs.declared.material.ProofFields.{ProofFields}
use Rattle.sig_bundle.specs.declared.material.TransparencyLogEntry.{TransparencyLogEntry}
use Rattle.sig_bundle.specs.declared.material.VerificationMaterial.{VerificationMaterial}
use Rattle.sig_checked_bundle.specs.declared.version.Version.{Version}
use Rattle.sig_checked_bundle.specs.declared.version.Version.TheVariants.{Bundle0_1, Bundle0_2, Bundle0_3}
use Rattle.sig_checked_bundle.proofs.Certificates.{a_root-told}
use Rattle.sig_checked_bundle.proofs.ContentLaws.{content-held, sole_signature, stated}
use Rattle.sig_checked_bundle.proofs.LeafLaws.{certificate-held}
use Rattle.sig_checked_bundle.proofs.ProfileLaws.{sole_entry}
use Rattle.sig_checked_bundle.proofs.VersionLaws.{unnamed, version-held}

-- a refusal has its cause, where another name of it has
under : (b : Bundle) (one other : BundleErrorKind) → one ≡ other → IsCause one b → IsCause other b
under b one other same cause = subst (λ k. IsCause k b) same cause

-- ---- the certificates

abbrev chain_at : {b : Bundle} → HasCertificates b → SigningChain
chain_at h = record { certificate = h.certificate; further = h.further }

rooted-caused : (b : Bundle) (h : HasCertificates b) (kind : BundleErrorKind) (found : Bool)
    → leaf_refusal h.certificate ≡ None → list_any is_root h.further ≡ found
    → Err kind ≡ (if found then Err RootInChain else Ok (chain_at h)) → IsCause kind b
rooted-caused b h kind true may_sign is told =
    under b RootInChain kind (sym (err_is kind RootInChain told))
    (record { before = h; may_sign = may_sign }, a_root-told h.further is)
rooted-caused b h kind false may_sign is told = absurd cc

led-caused : (b : Bundle) (h : HasCertificates b) (kind : BundleErrorKind) (found : Option CertificateValidationError)
    → leaf_refusal h.certificate ≡ found
    → Err kind ≡ leaf_or_refusal h.certificate h.further found → IsCause kind b
led-caused b h kind (Some e) is told = under b (NoLeaf e) kind (sym (err_is kind (NoLeaf e) told)) (h, is)
led-caused b h kind None is told = rooted-caused b h kind (list_any is_root h.further) is refl told

empty : (ders : List (List ℕ)) → AreCertificates ders [] → ders ≡ []
empty [] are = refl
empty (der ∷ ders) are = absurd are

read-caused : (b : Bundle) (h : HasFewEncodings b) (kind : BundleErrorKind)
    (read : Result (List Cert) BundleErrorKind) → AreRead h.before.encodings read
    → Err kind ≡ (read >>= leaf_among) → IsCause kind b
read-caused b h kind (Err e) are told =
    under b (CertificateMalformed are.0) kind (sym (err_is kind e told ∙ are.1)) (h, are.2)
read-caused b h kind (Ok []) are told =
    under b CertificatesMissing kind (sym (err_is kind CertificatesMissing told)) (h, empty h.before.encodings are)
read-caused b h kind (Ok (c ∷ further)) are told =
    led-caused b (record { before = h; certificate = c; further = further; read = are }) kind (leaf_refusal c) refl told

counted-caused : (b : Bundle) (h : HasEncodings b) (kind : BundleErrorKind) (many : Bool)
    → nat_lt 17 (length h.encodings) ≡ many → IsLeafUnlessMany many h.encodings (Err kind) → IsCause kind b
counted-caused b h kind true count told =
    under b (TooManyCertificates (length h.encodings)) kind
    (sym (err_is kind (TooManyCertificates (length h.encodings)) told))
    (h, refl, ltb-true 17 (length h.encodings) count)
counted-caused b h kind false count told =
    read-caused b (record { before = h; few = ltb-false 17 (length h.encodings) count }) kind told.0 told.1 told.2

certificate-caused : (b : Bundle) (h : HasMaterial b) (kind : BundleErrorKind) (held : Option (List (List ℕ)))
    → encodings_in h.material.content ≡ held
    → IsLeafAmong held (Err kind) → IsCause kind b
certificate-caused b h kind None is told =
    under b VerificationMaterialContentUnsupported kind
    (sym (err_is kind VerificationMaterialContentUnsupported told)) (h, is)
certificate-caused b h kind (Some ders) is told =
    counted-caused b (record { before = h; encodings = ders; held = is }) kind (nat_lt 17 (length ders)) refl told

-- ---- the content

signatures-caused : (b : Bundle) (h : HasEnvelope b) (kind : BundleErrorKind) (signatures : List DsseSignature)
    → h.envelope.signatures ≡ signatures
    → signature_among signatures ≡ Err kind → IsCause kind b
signatures-caused b h kind [] is told =
    under b (DsseInvalidSignatureCount 0) kind (err_is (DsseInvalidSignatureCount 0) kind told)
    (h, ap (λ l. length l) is, λ one. absurd (omega arith))
signatures-caused b h kind (signature ∷ []) is told = absurd cc
signatures-caused b h kind (signature ∷ other ∷ others) is told =
    under b (DsseInvalidSignatureCount (length (signature ∷ other ∷ others))) kind
    (err_is (DsseInvalidSignatureCount (length (signature ∷ other ∷ others))) kind told)
    (h, ap (λ l. length l) is, λ one. absurd (omega arith))

statement-caused : (b : Bundle) (h : HasSignature b) (kind : BundleErrorKind) (found : Option Statement)
    → statement_of h.before.envelope.payload ≡ found
    → statement_or_refusal found ≡ Err kind → IsCause kind b
statement-caused b h kind None is told =
    under b DssePayloadDecode kind (err_is DssePayloadDecode kind told) (h, is)
statement-caused b h kind (Some statement) is told = absurd cc

subjects-caused : (b : Bundle) (h : HasStatement b) (fault : SubjectFault) → IsCauseOf fault h.statement
    → IsCause (subject_refusal fault) b
subjects-caused b h (fault.TooManySubjects count) cause = (h, cause)
subjects-caused b h (fault.TooManyDigests count) cause = (h, cause)
subjects-caused b h (fault.Malformed name) cause = (h, cause)
subjects-caused b h fault.NoneRecognized cause = (h, cause)
subjects-caused b h fault.OutOfMemory cause = absurd cause

digests-caused : (b : Bundle) (h : HasStatement b) (kind : BundleErrorKind)
    (found : Result (List ArtifactDigest) SubjectFault) → digests_or_fault h.statement ≡ found
    → under_bundle_names found ≡ Err kind → IsCause kind b
digests-caused b h kind (Ok digests) is told = absurd cc
digests-caused b h kind (Err fault) is told =
    under b (subject_refusal fault) kind (err_is (subject_refusal fault) kind told)
    (subjects-caused b h fault ((faults_have_their_cause h.statement fault).0 is))

payload-caused : (b : Bundle) (h : HasSignature b) (kind : BundleErrorKind)
    → digests_in h.before.envelope.payload ≡ Err kind → IsCause kind b
payload-caused b h kind told =
    elim (bind_err (statement_or_refusal (statement_of h.before.envelope.payload)) _ kind told) [
      | inl none ↦ statement-caused b h kind (statement_of h.before.envelope.payload) refl none
      | inr some ↦ digests-caused b (record {
        before = h;
        statement = some.0;
        stated = stated (statement_of h.before.envelope.payload) some.0 some.1;
      }) kind (digests_or_fault some.0)
          refl some.2
    ]

-- after the digests nothing of an envelope is refused
kept-caused : (b : Bundle) (kind : BundleErrorKind) (kept : List ArtifactDigest → ContentWithSignature)
    (found : Result (List ArtifactDigest) BundleErrorKind)
    → (found ≡ Err kind → IsCause kind b) → (found >>= λ digests. Ok (kept digests)) ≡ Err kind → IsCause kind b
kept-caused b kind kept (Ok digests) caused told = absurd cc
kept-caused b kind kept (Err other) caused told = let same : other ≡ kind = cc in caused (ap Err same)

envelope-caused : (b : Bundle) (h : HasEnvelope b) (kind : BundleErrorKind) → envelope_content h.envelope ≡ Err kind
    → IsCause kind b
envelope-caused b h kind told =
    elim (bind_err (signature_among h.envelope.signatures) _ kind told) [
      | inl none ↦ signatures-caused b h kind h.envelope.signatures refl none
      | inr some ↦
          let s : HasSignature b = record {
            before = h;
            signature = some.0;
            only = sole_signature h.envelope.signatures some.0 some.1;
          } in
          kept-caused b kind _ (digests_in h.envelope.payload) (payload-caused b s kind) some.2
    ]

content-caused : (b : Bundle) (h : HasNoRoot b) (kind : BundleErrorKind) (content : Option Content)
    → b.content ≡ content → content_with_signature content ≡ Err kind → IsCause kind b
content-caused b h kind None is told = under b SignatureMissing kind (err_is SignatureMissing kind told) (h, is)
content-caused b h kind (Some (MessageSignature m)) is told = absurd cc
content-caused b h kind (Some (DsseEnvelope envelope)) is told =
    envelope-caused b (record { before = h; envelope = envelope; held = is }) kind told

-- ---- the log entry, and what the version demands of it

entry-caused : (b : Bundle) (h : HasContent b) (kind : BundleErrorKind) (entries : List TransparencyLogEntry)
    → (material_under h).tlog_entries ≡ entries
    → entry_among entries ≡ Err kind → IsCause kind b
entry-caused b h kind [] is told =
    under b (TlogEntry 0) kind (err_is (TlogEntry 0) kind told) (h, ap (λ l. length l) is, λ one. absurd (omega arith))
entry-caused b h kind (entry ∷ []) is told = absurd cc
entry-caused b h kind (entry ∷ other ∷ others) is told =
    under b (TlogEntry (length (entry ∷ other ∷ others))) kind
    (err_is (TlogEntry (length (entry ∷ other ∷ others))) kind told)
    (h, ap (λ l. length l) is, λ one. absurd (omega arith))

promise-caused : (b : Bundle) (h : HasVersion b) (kind : BundleErrorKind) (promise : Option (List ℕ))
    → h.version ≡ Bundle0_1 → h.before.entry.inclusion_promise ≡ promise
    → unless_lacking (lacks_promise promise) ≡ Err kind → IsCause kind b
promise-caused b h kind None version is told =
    under b (BundleProfile (Bundle01Profile InclusionPromiseMissing)) kind
    (err_is (BundleProfile (Bundle01Profile InclusionPromiseMissing)) kind told) (h, version, is)
promise-caused b h kind (Some promise) version is told = absurd cc

checkpoint-caused : (b : Bundle) (h : HasVersion b) (proof : ProofFields) (kind : BundleErrorKind)
    (checkpoint : Option (List ℕ))
    → DemandsProof h.version → h.before.entry.inclusion_proof ≡ Some proof → proof.checkpoint ≡ checkpoint
    → unless_lacking (lacks_checkpoint checkpoint) ≡ Err kind → IsCause kind b
checkpoint-caused b h proof kind None version included is told =
    under b (BundleProfile (Bundle02Profile CheckpointMissing)) kind
    (err_is (BundleProfile (Bundle02Profile CheckpointMissing)) kind told) (h, version, proof, included, is)
checkpoint-caused b h proof kind (Some text) version included is told = absurd cc

proof-caused : (b : Bundle) (h : HasVersion b) (kind : BundleErrorKind) (found : Option ProofFields)
    → DemandsProof h.version → h.before.entry.inclusion_proof ≡ found
    → unless_lacking (lacks_proof found) ≡ Err kind → IsCause kind b
proof-caused b h kind None version is told =
    under b (BundleProfile (Bundle02Profile InclusionProofMissing)) kind
    (err_is (BundleProfile (Bundle02Profile InclusionProofMissing)) kind told) (h, version, is)
proof-caused b h kind (Some proof) version is told =
    checkpoint-caused b h proof kind proof.checkpoint version is refl told

demands : (one other : Version) → one ≡ other → DemandsProof other → DemandsProof one
demands one other same demanded = subst (λ (v : Version). DemandsProof v) (sym same) demanded

lacking-caused : (b : Bundle) (h : HasVersion b) (kind : BundleErrorKind) (version : Version) → h.version ≡ version
    → unless_lacking (lacks version h.before.entry) ≡ Err kind → IsCause kind b
lacking-caused b h kind Bundle0_1 is told =
    promise-caused b h kind h.before.entry.inclusion_promise is refl told
lacking-caused b h kind Bundle0_2 is told =
    proof-caused b h kind h.before.entry.inclusion_proof (demands h.version Bundle0_2 is tt) refl told
lacking-caused b h kind Bundle0_3 is told =
    proof-caused b h kind h.before.entry.inclusion_proof (demands h.version Bundle0_3 is tt) refl told

profile-caused : (b : Bundle) (h : HasEntry b) (kind : BundleErrorKind) (version : Option Version)
    → version_of b.media_type ≡ version
    → meets_version b.media_type version h.entry ≡ Err kind → IsCause kind b
profile-caused b h kind None is told =
    under b (BundleProfile (Unknown b.media_type)) kind (err_is (BundleProfile (Unknown b.media_type)) kind told)
    (h, refl, unnamed b.media_type is)
profile-caused b h kind (Some version) is told =
    lacking-caused b (record { before = h; version = version; named = version-held b.media_type version is }) kind
    version refl told

-- ---- the bundle

met-caused : (b : Bundle) (h : HasEntry b) (kind : BundleErrorKind) (c : Checked)
    → (meets_profile b.media_type h.entry >>= λ _. Ok c) ≡ Err kind → IsCause kind b
met-caused b h kind c told =
    elim (bind_err (meets_profile b.media_type h.entry) _ kind told) [
      | inl lacking ↦ profile-caused b h kind (version_of b.media_type) refl lacking
      | inr met ↦ absurd (none met.2)
    ] where
      none : ◌≡◌ {A = Result Checked BundleErrorKind} (Ok c) (Err kind) → ⊥
      none e = cc

-- the certificates that passed
abbrev rootless : (b : Bundle) (m : HasMaterial b) (c : SigningChain)
    → HoldsLeaf m.material.content c.certificate c.further → HasNoRoot b
rootless b m c held = record {
  before = record {
    before = record {
      before = record {
        before = record { before = m; encodings = held.encodings; held = held.held };
        few = held.few;
      };
      certificate = c.certificate;
      further = c.further;
      read = held.read;
    };
    may_sign = held.may_sign;
  };
  rootless = held.rootless;
}

checks-caused : (b : Bundle) (m : HasMaterial b) (kind : BundleErrorKind) (answer : Result SigningChain BundleErrorKind)
    → IsSigningCertificate m.material.content answer
    → Err kind ≡ checked b m.material answer → IsCause kind b
checks-caused b m kind (Err other) certificate told =
    under b other kind (sym (err_is kind other told))
    (certificate-caused b m other (encodings_in m.material.content) refl certificate)
checks-caused b m kind (Ok c) certificate told =
    elim (bind_err (content_with_signature b.content) _ kind (sym told)) [
      | inl none ↦ content-caused b leaf kind b.content refl none
      | inr content ↦
          let d : HasContent b = record {
            before = leaf;
            signature = content.0.signature;
            kept = content.0.content;
            read = content-held b.content content.0 content.1;
          } in
          elim (bind_err (entry_among m.material.tlog_entries) _ kind content.2) [
            | inl none ↦ entry-caused b d kind m.material.tlog_entries refl none
            | inr entry ↦ met-caused b (record {
              before = d;
              entry = entry.0;
              only = sole_entry m.material.tlog_entries entry.0 entry.1;
            }) kind _ entry.2
          ]
    ] where
      leaf : HasNoRoot b
      leaf = rootless b m c (certificate-held m.material.content c certificate)

pub material-caused : (b : Bundle) (kind : BundleErrorKind) (material : Option VerificationMaterial)
    → b.verification_material ≡ material → IsCheckedWith b material (Err kind) → IsCause kind b
material-caused b kind None is told =
    under b VerificationMaterialMissing kind (sym (err_is kind VerificationMaterialMissing told)) is
material-caused b kind (Some material) is told =
    checks-caused b (record { material = material; brought = is }) kind told.0 told.1 told.2
