-- The links `material` to `profile`: a bundle's own checks say which of them fails first.
use Rattle.std.proofs.Common.{◌≡◌, ◌↔◌, ◌≤◌, ◌<◌, ℕ, List, [], ◌∷◌, length, arith, Option, Some, None, Result, Ok}
use Rattle.std.proofs.Common.{Err, inl, inr, refl, sym, ap, subst, ◌∙◌}
use Rattle.std.specs.List.{AllByRecursion}
use Rattle.sig_base.proofs.OptionSteps.{some_is}
use Rattle.sig_checked_bundle.proofs.Certificates.{OneCertificate, certificates_one, encodings-few, further-few}
use Rattle.sig_checked_bundle.proofs.Certificates.{none_malformed, rootless-none}
use Rattle.sig_checked_bundle.proofs.VersionLaws.{version-meant}
use Rattle.sig_checked_bundle.specs.Checked.{Checked, IsChecked}
use Rattle.sig_checked_bundle.specs.Passed.{HasPromise, HasProof, IsContentOf, IsMet, IsPassed}
use Rattle.sig_checked_bundle.specs.Refusals.{DemandsProof, HasCertificates, HasContent, HasEncodings, HasEntry}
use Rattle.sig_checked_bundle.specs.Refusals.{HasEnvelope, HasLeaf, HasMaterial, HasNoRoot, HasStatement, HasVersion}
use Rattle.sig_checked_bundle.specs.Refusals.{IsCause, IsProfileCauseOf, RefusalsHaveTheirCause}
use Rattle.sig_checked_bundle.specs.SigningCertificate.{IsNoRoot, encodings_in}
use Rattle.sig_bundle.specs.declared.bundle.Bundle.{Bundle}
use Rattle.sig_bundle.specs.declared.bundle.Content.{Content}
use Rattle.sig_bundle.specs.declared.bundle.Content.TheVariants.{MessageSignature as Message, DsseEnvelope as Enveloped}
use Rattle.sig_checked_bundle.specs.declared.bundle_error.BundleErrorKind.{BundleErrorKind}
use Rattle.sig_checked_bundle.specs.declared.bundle_error.BundleErrorKind.TheVariants as refusal
use Rattle.sig_checked_bundle.specs.declared.bundle_error.BundleProfileErrorKind.{BundleProfileErrorKind}
use Rattle.sig_checked_bundle.specs.declared.bundle_error.BundleProfileErrorKind.TheVariants.{Bundle01Profile}
use Rattle.sig_checked_bundle.specs.declared.bundle_error.BundleProfileErrorKind.TheVariants.{Bundle02Profile, Unknown}
use Rattle.sig_checked_bundle.specs.declared.bundle_error.Bundle01ProfileErrorKind.TheVariants.{InclusionPromiseMissing}
use Rattle.sig_checked_bundle.specs.declared.bundle_error.Bundle02ProfileErrorKind.TheVariants.{InclusionProofMissing}
use Rattle.sig_checked_bundle.specs.declared.bundle_error.Bundle02ProfileErrorKind.TheVariants.{CheckpointMissing}
use Rattle.sig_checked_bundle.specs.declared.content_check.CheckedContent.{CheckedContent}
use Rattle.sig_checked_bundle.specs.declared.content_check.CheckedContent.TheVariants.{
  MessageSignature as CheckedMessage,
}
use Rattle.sig_checked_bundle.specs.declared.content_check.CheckedContent.TheVariants.{Dsse}
use Rattle.sig_bundle.specs.declared.material.ProofFields.{ProofFields}
use Rattle.sig_bundle.specs.declared.material.TransparencyLogEntry.{TransparencyLogEntry}
use Rattle.sig_bundle.specs.declared.material.VerificationMaterial.{VerificationMaterial}
use Rattle.sig_checked_bundle.specs.declared.version.Version.{Version}
use Rattle.sig_checked_bundle.specs.declared.version.Version.TheVariants.{Bundle0_1, Bundle0_2, Bundle0_3}
use Rattle.sig_certificate.specs.Certificate.{Cert}
use Rattle.sig_certificate.specs.Certificates.{AreCertificates}
use Rattle.sig_certificate.specs.Profile.{leaf_refusal}
use Rattle.sig_certificate.specs.declared.profile_error.CertificateValidationError.{CertificateValidationError}
use Rattle.sig_dsse.proofs.FaultCauses.{faults_have_their_cause}
use Rattle.sig_dsse.proofs.NamedDigests.{takes_the_named}
use Rattle.sig_dsse.specs.EnvelopeText.{envelope_text}
use Rattle.sig_dsse.specs.Faults.{IsCauseOf}
use Rattle.sig_dsse.specs.Pae.{pae}
use Rattle.sig_dsse.specs.Recognized.{digests_or_fault}
use Rattle.sig_dsse.specs.Statement.{Statement}
use Rattle.sig_dsse.specs.declared.artifact_digest.ArtifactDigest.{ArtifactDigest}
use Rattle.sig_dsse.specs.declared.envelope.DsseSignature.{DsseSignature}
use Rattle.sig_dsse.specs.declared.recognized.SubjectFault.{SubjectFault}
use Rattle.sig_dsse.specs.declared.recognized.SubjectFault.TheVariants as fault
use Rattle.sig_rekor.proofs.Steps.{head_is}
use Rattle.sig_base.specs.Rules.{FailsFirst}
use Rattle.sig_verify.specs.BundleLinks.{AreFew, HoldsOfBundle, IsContentRead, IsEnvelopeRead, OfCertificates, OfContent}
use Rattle.sig_verify.specs.BundleLinks.{OfEncodings, OfEntry, OfMaterial, bundle_links}
use Rattle.sig_verify.specs.Judged.{IsOfFirst}
use Rattle.sig_verify.specs.LinkLaws.{BundlesAreJudged}
use Rattle.sig_verify.specs.declared.link.Link.{Link}
use Rattle.sig_verify.specs.declared.link.Link.TheVariants.{Material, Certificate, Leaf, RootInChain}
use Rattle.sig_verify.specs.declared.link.Link.TheVariants.{Content as ContentLink, Envelope, Entry, Profile}
use Rattle.sig_verify.specs.declared.offline_error.OfflineError.TheVariants.{Bundle as Refused}

-- ---- equal parts

-- what holds of the first and of the further ones of a list
abbrev OfParts : (Cert → List Cert → Type 0) → List Cert → Type 0
OfParts P [] = Unit {0}
OfParts P (c ∷ further) = P c further

-- what a version that demands a proof asks
demanded : (version : Version) (e : TransparencyLogEntry) → DemandsProof version → IsMet version e → HasProof e
demanded Bundle0_1 e demands met = absurd demands
demanded Bundle0_2 e demands met = met
demanded Bundle0_3 e demands met = met

-- content that is read is kept, with its signature
kept_of : (content : Content) → IsContentRead content
    → (signature : List ℕ) × (kept : CheckedContent) × IsContentOf (Some content) signature kept
kept_of (Message message) read =
    (message.signature, CheckedMessage, inl (record { message = message; held = refl; same = refl; over = refl }))
kept_of (Enveloped envelope) read = (
  read.signature.sig,
  Dsse (pae envelope.payload_type envelope.payload) read.digests (envelope_text envelope) envelope.payload,
  inr (record {
    envelope = envelope;
    held = refl;
    signature = read.signature;
    only = read.only;
    same = refl;
    statement = read.statement;
    stated = read.stated;
    digests = read.digests;
    named = read.taken;
    over = refl;
  }),
)

module _ (b : Bundle) where
  abbrev Holds : Link → Type 0
  Holds = HoldsOfBundle b

  at_material : (h : HasMaterial b) (P : VerificationMaterial → Type 0) → OfMaterial b P → P h.material
  at_material h P holds = subst P (some_is holds.0 h.material (sym holds.1 ∙ h.brought)) holds.2

  at_encodings : (h : HasEncodings b) (P : List (List ℕ) → Type 0) → OfEncodings b P → P h.encodings
  at_encodings h P holds =
      let there = at_material h.before (λ m. (ders : List (List ℕ)) × (encodings_in m.content ≡ Some ders) × P ders)
      holds in
      subst P (some_is there.0 h.encodings (sym there.1 ∙ h.held)) there.2

  at_certificates : OneCertificate → (h : HasCertificates b) (P : Cert → List Cert → Type 0) → OfCertificates b P
      → P h.certificate h.further
  at_certificates one h P holds =
      let there =
      at_encodings h.before.before (λ ders. (c : Cert) × (further : List Cert) × AreCertificates ders (c ∷ further) × P c further)
      holds in
      subst (λ (cs : List Cert). OfParts P cs)
      (certificates_one one h.before.before.encodings (there.0 ∷ there.1) (h.certificate ∷ h.further) there.2 h.read) there.3

  at_envelope : (h : HasEnvelope b) → OfContent b IsContentRead → IsEnvelopeRead h.envelope
  at_envelope h holds =
      subst IsContentRead (some_is holds.0 (Enveloped h.envelope) (sym holds.1 ∙ h.held)) holds.2

  abbrev material_at : HasContent b → HasMaterial b
  material_at h = h.before.before.before.before.before.before

  at_entry : (h : HasEntry b) (P : TransparencyLogEntry → Type 0) → OfEntry b P → P h.entry
  at_entry h P holds =
      let there = at_material (material_at h.before)
      (λ m. (e : TransparencyLogEntry) × (m.tlog_entries ≡ e ∷ []) × P e) holds in
      subst P (head_is there.0 h.entry [] [] (sym there.1 ∙ h.only)) there.2

  at_profile : (h : HasVersion b) → Holds Profile → IsMet h.version h.before.entry
  at_profile h holds =
      let same : holds.0 ≡ h.version =
      some_is holds.0 h.version
      (sym (version-meant b.media_type holds.0 holds.1) ∙ version-meant b.media_type h.version h.named) in
      subst (λ (v : Version). IsMet v h.before.entry) same (at_entry h.before (IsMet holds.0) holds.2)

  -- ---- what holds before

  few_of : (h : HasCertificates b) → AreFew h.further
  few_of h = further-few h.before.before.encodings h.certificate h.further h.read h.before.few

  material_holds : HasEncodings b → Holds Material
  material_holds h = (h.before.material, h.before.brought, (h.encodings, h.held, tt))

  certificates_hold : (h : HasCertificates b) (P : Cert → List Cert → Type 0) → P h.certificate h.further
      → OfCertificates b P
  certificates_hold h P p = (
    h.before.before.before.material,
    h.before.before.before.brought,
    (h.before.before.encodings, h.before.before.held, (h.certificate, h.further, h.read, p)),
  )

  content_read : (signature : List ℕ) (kept : CheckedContent) → IsContentOf b.content signature kept
      → OfContent b IsContentRead
  content_read signature kept (inl message) = (Message message.message, message.held, tt)
  content_read signature kept (inr envelope) = (
    Enveloped envelope.envelope,
    envelope.held,
    record {
      signature = envelope.signature;
      only = envelope.only;
      statement = envelope.statement;
      stated = envelope.stated;
      digests = envelope.digests;
      taken = envelope.named;
    },
  )

  content_there : OfContent b IsContentRead → Holds ContentLink
  content_there read = (read.0, read.1, tt)

  entry_holds : HasEntry b → Holds Entry
  entry_holds h =
      let m = material_at h.before in (m.material, m.brought, (h.entry, h.only, tt))

  -- ---- the first that fails

  after_certificate : HasCertificates b → (links : List Link) (link : Link) → FailsFirst Holds links link
      → FailsFirst Holds (Material ∷ Certificate ∷ links) link
  after_certificate h links link fails =
      inr (material_holds h.before.before, inr (certificates_hold h (λ c further. AreFew further) (few_of h), fails))

  after_leaf : HasLeaf b → (links : List Link) (link : Link) → FailsFirst Holds links link
      → FailsFirst Holds (Material ∷ Certificate ∷ Leaf ∷ links) link
  after_leaf h links link fails =
      after_certificate h.before (Leaf ∷ links) link
      (inr (certificates_hold h.before (λ c further. leaf_refusal c ≡ None) h.may_sign, fails))

  after_chain : HasNoRoot b → (links : List Link) (link : Link) → FailsFirst Holds links link
      → FailsFirst Holds (Material ∷ Certificate ∷ Leaf ∷ RootInChain ∷ links) link
  after_chain h links link fails =
      after_leaf h.before (RootInChain ∷ links) link
      (inr (certificates_hold h.before.before (λ c further. AllByRecursion IsNoRoot further) h.rootless, fails))

  after_content : HasContent b → (links : List Link) (link : Link) → FailsFirst Holds links link
      → FailsFirst Holds (Material ∷ Certificate ∷ Leaf ∷ RootInChain ∷ ContentLink ∷ Envelope ∷ links) link
  after_content h links link fails =
      let read = content_read h.signature h.kept h.read in
      after_chain h.before (ContentLink ∷ Envelope ∷ links) link (inr (content_there read, inr (read, fails)))

  first_certificate : HasEncodings b → ¬ Holds Certificate → FailsFirst Holds bundle_links Certificate
  first_certificate h fails = inr (material_holds h, inl (fails, refl))

  first_envelope : HasEnvelope b → ¬ Holds Envelope → FailsFirst Holds bundle_links Envelope
  first_envelope h fails =
      after_chain h.before (ContentLink ∷ Envelope ∷ Entry ∷ Profile ∷ []) Envelope
      (inr ((Enveloped h.envelope, h.held, tt), inl (fails, refl)))

  first_profile : HasEntry b → ¬ Holds Profile → FailsFirst Holds bundle_links Profile
  first_profile h fails =
      after_content h.before (Entry ∷ Profile ∷ []) Profile (inr (entry_holds h, inl (fails, refl)))

  -- ---- what does not hold

  -- the statement has a fault
  faulty : (h : HasStatement b) (f : SubjectFault) → IsCauseOf f h.statement → ¬ Holds Envelope
  faulty h f cause holds =
      let read : IsEnvelopeRead h.before.before.envelope = at_envelope h.before.before holds in
      let same : read.statement ≡ h.statement = some_is read.statement h.statement (sym read.stated ∙ h.stated) in
      let ok : digests_or_fault h.statement ≡ Ok read.digests =
      subst (λ (s : Statement). digests_or_fault s ≡ Ok read.digests) same
      ((takes_the_named read.statement read.digests).1 read.taken) in
      let both : ◌≡◌ {A = Result (List ArtifactDigest) SubjectFault} (Ok read.digests) (Err f) =
      sym ok ∙ (faults_have_their_cause h.statement f).1 cause in absurd cc

  profile_fails : (kind : BundleProfileErrorKind) → IsProfileCauseOf kind b → FailsFirst Holds bundle_links Profile
  profile_fails (Unknown text) cause = first_profile cause.0 (λ holds. cause.2 holds.0 holds.1)
  profile_fails (Bundle01Profile InclusionPromiseMissing) cause =
      first_profile cause.0.before (λ holds.
      let met : HasPromise cause.0.before.entry =
      subst (λ (v : Version). IsMet v cause.0.before.entry) cause.1 (at_profile cause.0 holds) in
      let wrong : ◌≡◌ {A = Option (List ℕ)} (Some met.promise) None = sym met.promised ∙ cause.2 in absurd cc)
  profile_fails (Bundle02Profile InclusionProofMissing) cause =
      first_profile cause.0.before (λ holds.
      let has : HasProof cause.0.before.entry =
      demanded cause.0.version cause.0.before.entry cause.1 (at_profile cause.0 holds) in
      let wrong : ◌≡◌ {A = Option ProofFields} (Some has.proof) None = sym has.included ∙ cause.2 in absurd cc)
  profile_fails (Bundle02Profile CheckpointMissing) cause =
      first_profile cause.0.before (λ holds.
      let has : HasProof cause.0.before.entry =
      demanded cause.0.version cause.0.before.entry cause.1 (at_profile cause.0 holds) in
      let same : has.proof ≡ cause.2 = some_is has.proof cause.2 (sym has.included ∙ cause.3) in
      let wrong : ◌≡◌ {A = Option (List ℕ)} (Some has.text) None =
      sym has.checkpoint ∙ ap (λ (p : ProofFields). p.checkpoint) same ∙ cause.4 in absurd cc)

  -- ---- each refusal

  told : OneCertificate → (kind : BundleErrorKind) → IsCause kind b → IsOfFirst Holds bundle_links (Refused kind)
  told one refusal.VerificationMaterialMissing cause = (
    Material,
    refl,
    inl (
      (λ holds.
          let wrong : ◌≡◌ {A = Option VerificationMaterial} (Some holds.0) None = sym holds.1 ∙ cause in absurd cc),
      refl,
    ),
  )
  told one refusal.VerificationMaterialContentUnsupported cause = (
    Material,
    refl,
    inl (
      (λ holds.
          let there = at_material cause.0
          (λ m. (ders : List (List ℕ)) × (encodings_in m.content ≡ Some ders) × Unit {0}) holds in
          let wrong : ◌≡◌ {A = Option (List (List ℕ))} (Some there.0) None = sym there.1 ∙ cause.1 in absurd cc),
      refl,
    ),
  )
  told one (refusal.TooManyCertificates count) cause = (
    Certificate,
    refl,
    first_certificate cause.0 (λ holds.
        let there = at_encodings cause.0
        (λ ders. (c : Cert) × (further : List Cert) × AreCertificates ders (c ∷ further) × AreFew further) holds in
        let few : length cause.0.encodings ≤ 17 =
        encodings-few cause.0.encodings there.0 there.1 there.2 there.3 in
        let same : length cause.0.encodings ≡ count = cause.1 in
        let many : 17 < count = cause.2 in absurd (omega (arith, few, same, many))),
  )
  told one (refusal.CertificateMalformed index) cause = (
    Certificate,
    refl,
    first_certificate cause.0.before (λ holds.
        let there = at_encodings cause.0.before
        (λ ders. (c : Cert) × (further : List Cert) × AreCertificates ders (c ∷ further) × AreFew further) holds in
        none_malformed cause.0.before.encodings (there.0 ∷ there.1) index there.2 cause.1),
  )
  told one refusal.CertificatesMissing cause = (
    Certificate,
    refl,
    first_certificate cause.0.before (λ holds.
        let there = at_encodings cause.0.before
        (λ ders. (c : Cert) × (further : List Cert) × AreCertificates ders (c ∷ further) × AreFew further) holds in
        subst (λ (ders : List (List ℕ)). AreCertificates ders (there.0 ∷ there.1)) cause.1 there.2),
  )
  told one (refusal.NoLeaf e) cause = (
    Leaf,
    refl,
    after_certificate cause.0 (Leaf ∷ RootInChain ∷ ContentLink ∷ Envelope ∷ Entry ∷ Profile ∷ []) Leaf (inl (
      (λ holds.
          let may : leaf_refusal cause.0.certificate ≡ None =
          at_certificates one cause.0 (λ c further. leaf_refusal c ≡ None) holds in
          let wrong : ◌≡◌ {A = Option CertificateValidationError} None (Some e) = sym may ∙ cause.1 in absurd cc),
      refl,
    )),
  )
  told one refusal.RootInChain cause = (
    RootInChain,
    refl,
    after_leaf cause.0 (RootInChain ∷ ContentLink ∷ Envelope ∷ Entry ∷ Profile ∷ []) RootInChain (inl (
      (λ holds. rootless-none cause.0.before.further
          (at_certificates one cause.0.before (λ c further. AllByRecursion IsNoRoot further) holds) cause.1),
      refl,
    )),
  )
  told one refusal.SignatureMissing cause = (
    ContentLink,
    refl,
    after_chain cause.0 (ContentLink ∷ Envelope ∷ Entry ∷ Profile ∷ []) ContentLink (inl (
      (λ holds. let wrong : ◌≡◌ {A = Option Content} (Some holds.0) None = sym holds.1 ∙ cause.1 in absurd cc),
      refl,
    )),
  )
  told one (refusal.DsseInvalidSignatureCount count) cause = (
    Envelope,
    refl,
    first_envelope cause.0 (λ holds.
        let read : IsEnvelopeRead cause.0.envelope = at_envelope cause.0 holds in
        cause.2 (sym cause.1 ∙ ap (λ (s : List DsseSignature). length s) read.only)),
  )
  told one refusal.DssePayloadDecode cause = (
    Envelope,
    refl,
    first_envelope cause.0.before (λ holds.
        let read : IsEnvelopeRead cause.0.before.envelope = at_envelope cause.0.before holds in
        let wrong : ◌≡◌ {A = Option Statement} (Some read.statement) None = sym read.stated ∙ cause.1 in absurd cc),
  )
  told one (refusal.DsseTooManySubjects count) cause =
      (Envelope, refl, first_envelope cause.0.before.before (faulty cause.0 (fault.TooManySubjects count) cause.1))
  told one (refusal.DsseTooManySubjectDigests count) cause =
      (Envelope, refl, first_envelope cause.0.before.before (faulty cause.0 (fault.TooManyDigests count) cause.1))
  told one (refusal.DsseSubjectDigestMalformed name) cause =
      (Envelope, refl, first_envelope cause.0.before.before (faulty cause.0 (fault.Malformed name) cause.1))
  told one refusal.DsseNoRecognizedSubjectDigest cause =
      (Envelope, refl, first_envelope cause.0.before.before (faulty cause.0 fault.NoneRecognized cause.1))
  told one (refusal.TlogEntry count) cause = (
    Entry,
    refl,
    after_content cause.0 (Entry ∷ Profile ∷ []) Entry (inl (
      (λ holds.
          let there = at_material (material_at cause.0)
          (λ m. (e : TransparencyLogEntry) × (m.tlog_entries ≡ e ∷ []) × Unit {0}) holds in
          cause.2 (sym cause.1 ∙ ap (λ (es : List TransparencyLogEntry). length es) there.1)),
      refl,
    )),
  )
  told one (refusal.BundleProfile kind) cause = (Profile, refl, profile_fails kind cause)
  told one refusal.OutOfMemory cause = absurd cause

  -- ---- and what passes

  all_hold : (c : Checked) → IsPassed b c → AllByRecursion Holds bundle_links
  all_hold c is =
      let l = is.certificate in
      let h : HasCertificates b = record {
        before = record {
          before = record {
            before = record { material = is.material; brought = is.brought };
            encodings = l.encodings;
            held = l.held;
          };
          few = l.few;
        };
        certificate = c.certificate;
        further = c.further;
        read = l.read;
      } in
      let read = content_read c.signature c.content is.content in (
        material_holds h.before.before,
        (
          certificates_hold h (λ x further. AreFew further) (few_of h),
          (
            certificates_hold h (λ x further. leaf_refusal x ≡ None) l.may_sign,
            (
              certificates_hold h (λ x further. AllByRecursion IsNoRoot further) l.rootless,
              (
                content_there read,
                (
                  read,
                  (
                    (is.material, is.brought, (c.entry, is.logged, tt)),
                    ((is.version, is.named, (is.material, is.brought, (c.entry, is.logged, is.met))), tt),
                  ),
                ),
              ),
            ),
          ),
        ),
      )

  passes_all : OneCertificate → AllByRecursion Holds bundle_links → (c : Checked) × IsPassed b c
  passes_all one (material, (certificate, (leaf, (chain, (there, (content, (entry, (profile, end)))))))) =
      let m : HasMaterial b = record { material = leaf.0; brought = leaf.1 } in
      let held = leaf.2 in
      let first = held.2 in
      let e : HasEncodings b = record { before = m; encodings = held.0; held = held.1 } in
      let counted = at_encodings e
      (λ ders. (c : Cert) × (further : List Cert) × AreCertificates ders (c ∷ further) × AreFew further) certificate in
      let few : length held.0 ≤ 17 = encodings-few held.0 counted.0 counted.1 counted.2 counted.3 in
      let h : HasCertificates b = record {
        before = record { before = e; few = few };
        certificate = first.0;
        further = first.1;
        read = first.2;
      } in
      let kept = kept_of content.0 content.2 in
      let logged =
      at_material m (λ w. (e : TransparencyLogEntry) × (w.tlog_entries ≡ e ∷ []) × IsMet profile.0 e) profile.2 in
      let c : Checked = record {
        certificate = first.0;
        further = first.1;
        signature = kept.0;
        content = kept.1;
        entry = logged.0;
      } in (
        c,
        record {
          material = leaf.0;
          brought = leaf.1;
          certificate = record {
            encodings = held.0;
            held = held.1;
            few = few;
            read = first.2;
            may_sign = first.3;
            rootless = at_certificates one h (λ x further. AllByRecursion IsNoRoot further) chain;
          };
          content = subst (λ (o : Option Content). IsContentOf o kept.0 kept.1) (sym content.1) kept.2;
          logged = logged.1;
          version = profile.0;
          named = profile.1;
          met = logged.2;
        },
      )

pub bundles_are_judged : OneCertificate → ((b : Bundle) (c : Checked) → IsChecked b (Ok c) ↔ IsPassed b c)
    → RefusalsHaveTheirCause
    → BundlesAreJudged
bundles_are_judged one passed causes = record {
  passed = λ b c is. all_hold b c ((passed b c).0 is);
  passes = λ b all. let found = passes_all b one all in (found.0, (passed b found.0).1 found.1);
  refused = λ b kind is. told b one kind ((causes b kind).0 is);
}
