-- Each error of offline verification has its cause.
use Rattle.std.proofs.Common.{◌≡◌, ℕ, Bool, true, false, List, Result, Ok, Err, inl, inr, refl, sym}
use Rattle.std.proofs.Common.{ap, subst, ◌∙◌}
use Rattle.std.specs.Prelude.{if◌then◌else◌}
use Rattle.sig_base.proofs.ResultSteps.{bind_err, err_is}
use Rattle.sig_base.specs.ResultSteps.{◌>>=◌}
use Rattle.sig_base.specs.declared.error.SigstoreError.{SigstoreError}
use Rattle.sig_base.specs.declared.fault.TrustPart.TheVariants as part
use Rattle.sig_base.specs.declared.scheme.VerifyScheme.{VerifyScheme}
use Rattle.sig_bundle.specs.BundleRecord.{bundle_in}
use Rattle.sig_bundle.specs.declared.bundle.Bundle.{Bundle as BundleType}
use Rattle.sig_bundle.specs.declared.material.TransparencyLogEntry.{TransparencyLogEntry}
use Rattle.sig_checked_bundle.specs.Checked.{Checked}
use Rattle.sig_checked_bundle.specs.Passed.{IsPassed}
use Rattle.sig_checked_bundle.specs.Refusals.{RefusalsHaveTheirCause}
use Rattle.sig_checked_bundle.specs.declared.content_check.CheckedContent.{CheckedContent}
use Rattle.sig_checked_bundle.specs.declared.content_check.CheckedContent.TheVariants.{MessageSignature, Dsse}
use Rattle.sig_dsse.specs.declared.artifact_digest.ArtifactDigest.{ArtifactDigest}
use Rattle.sig_dsse.specs.declared.artifact_digest.ArtifactDigest.TheVariants.{Sha256, Sha512}
use Rattle.sig_json.specs.declared.error.JsonError.{JsonError}
use Rattle.sig_key.specs.Kind.{key_kind, kind_answer}
use Rattle.sig_root.specs.RootRecord.{trusted_root_in}
use Rattle.sig_root.specs.declared.record.TrustedRoot.{TrustedRoot}
use Rattle.sig_x509.specs.Issuance.{IsFirstNoAnchor}
use Rattle.sig_verify.proofs.EntryCauses.{entry_errors_have_their_cause}
use Rattle.sig_verify.proofs.IssuerCauses.{issued}
use Rattle.sig_verify.proofs.OfflineLaws.{Groups, one_entry}
use Rattle.sig_verify.proofs.RootVerdicts.{none_given, some_given}
use Rattle.sig_verify.specs.ContentCheck.{AcceptsUnder, certificate_key_answer, if_about, if_accepted, is_about}
use Rattle.sig_verify.specs.ContentCheck.{content_answer, or_unsupported, signature_answer}
use Rattle.sig_verify.specs.EntryCauses.{IsEntryCause}
use Rattle.sig_verify.specs.IssuerCheck.{issued_answer}
use Rattle.sig_verify.specs.Links.{Inputs, OfLogged, Outside}
use Rattle.sig_verify.specs.LogEntry.{log_entry_answer}
use Rattle.sig_verify.specs.OfflineCauses.{IsOfflineCause, IsOverOther, OfflineErrorsHaveTheirCause}
use Rattle.sig_verify.specs.OfflineErrors.{of_root, of_verification}
use Rattle.sig_verify.specs.OfflineLaws.{AreReadInputs}
use Rattle.sig_verify.specs.OfflineVerdict.{AfterAnswer, AfterRead, IsOfflineIn, IsOfflineOf, IsVouchedIn, Outcome}
use Rattle.sig_verify.specs.OfflineVerdict.{authorities_of, ct_keys_of}
use Rattle.sig_verify.specs.RootLinks.{authorities, ct_keys, rekor_keys}
use Rattle.sig_verify.specs.Verdict.{After, AfterPolicy, Answer, IsVerdict, IsVerdictFromBody, IsVerdictFromKey}
use Rattle.sig_verify.specs.Verdict.{IsVerdictFromPolicy}
use Rattle.sig_verify.specs.Verifier.{IsRefusedRoot, IsVerifierOf, Trusted}
use Rattle.sig_verify.specs.declared.error.CertificateErrorKind.TheVariants as certificate
use Rattle.sig_verify.specs.declared.error.SignatureErrorKind.TheVariants as signature
use Rattle.sig_verify.specs.declared.error.VerificationError.{VerificationError}
use Rattle.sig_verify.specs.declared.error.VerificationError.TheVariants as verification
use Rattle.sig_verify.specs.declared.offline_error.OfflineError.{OfflineError}
use Rattle.sig_verify.specs.declared.offline_error.OfflineError.TheVariants as error
use Rattle.sig_verify.specs.declared.offline_error.Part.TheVariants.{Root, Bundle}

same_error : (one other : OfflineError) → ◌≡◌ {A = Outcome} (Err one) (Err other) → one ≡ other
same_error one other is = cc

same_refusal : (one other : VerificationError) → ◌≡◌ {A = Answer} (Err one) (Err other) → one ≡ other
same_refusal one other is = cc

module _ (laws : Groups) (refusals : RefusalsHaveTheirCause) (o : Outside) (i : Inputs) (read : AreReadInputs i) where
  abbrev Is : OfflineError → Type 0
  Is why = IsOfflineCause o i why

  -- ---- the log entry

  of_entry : (why : OfflineError) → OfLogged i (λ keys e. IsEntryCause o.checker.spki keys e why) → Is why
  of_entry (error.Json Root why) (root, root_is, (b, bundle_is, (c, passed, none))) = absurd none
  of_entry (error.Json Bundle why) (root, root_is, (b, bundle_is, (c, passed, none))) = absurd none
  of_entry (error.TrustRoot p) of = tt
  of_entry (error.Anchor place) (root, root_is, (b, bundle_is, (c, passed, none))) = absurd none
  of_entry (error.Bundle kind) (root, root_is, (b, bundle_is, (c, passed, none))) = absurd none
  of_entry (error.Certificate kind) (root, root_is, (b, bundle_is, (c, passed, none))) = absurd none
  of_entry (error.Policy refusal) (root, root_is, (b, bundle_is, (c, passed, none))) = absurd none
  of_entry (error.Signature kind) (root, root_is, (b, bundle_is, (c, passed, none))) = absurd none
  of_entry error.LogIdMissing of = of
  of_entry (error.RekorPublicKeyNotFoundError id) of = of
  of_entry error.KeyParsingError of = of
  of_entry error.PublicKeyUnsupportedAlgorithmError of = of
  of_entry error.PromiseMissing of = of
  of_entry error.PromiseInteger of = of
  of_entry error.Promise of = of
  of_entry error.ProofMissing of = of
  of_entry error.RootLength of = of
  of_entry (error.HashLength index) of = of
  of_entry error.TreeSize of = of
  of_entry error.CheckpointMissing of = of
  of_entry (error.ParseCheckpointError f) of = of
  of_entry error.CheckpointSignatureVerificationError of = of
  of_entry (error.ConsistencyProofError m) of = of
  of_entry (error.InclusionProofError m) of = of
  of_entry error.OutOfMemory of = tt

  -- ---- a bundle that passed its own checks

  module _ (b : BundleType) (bundle_is : bundle_in i.bundle ≡ Ok b) (c : Checked) (passed : IsPassed b c) where
    signed_by : (b : Bool) (x : VerificationError) → if_accepted b ≡ Err x → ¬ IsOverOther i.digest c.content
        → Is (of_verification x)
    signed_by true x told other = absurd cc
    signed_by false x told other =
        subst (λ (y : VerificationError). Is (of_verification y))
        (err_is (verification.Signature signature.VerificationFailed) x told) (b, bundle_is, (c, passed, other))

    signed : (message prehash : AcceptsUnder) (d : ArtifactDigest) (content : CheckedContent) (bytes : List ℕ)
        (x : VerificationError) → i.digest ≡ d → c.content ≡ content
        → signature_answer message prehash d content bytes ≡ Err x → Is (of_verification x)
    signed message prehash d (Dsse pae digests envelope payload) bytes x d_is is told =
        signed_by (message pae bytes) x told (λ other. (let wrong : Dsse pae digests envelope payload ≡ MessageSignature =
        sym is ∙ other.itself in cc))
    signed message prehash (Sha256 digest) MessageSignature bytes x d_is is told =
        signed_by (prehash digest bytes) x told (λ other. (let wrong : Sha256 digest ≡ Sha512 other.bytes =
        sym d_is ∙ other.wide in cc))
    signed message prehash (Sha512 digest) MessageSignature bytes x d_is is told =
        subst (λ (y : VerificationError). Is (of_verification y))
        (err_is (verification.Signature signature.DigestAlgorithmUnsupported) x told)
        (b, bundle_is, (c, passed, record { itself = is; bytes = digest; wide = d_is }))

    about : (a : Bool) (x : VerificationError) → if_about a ≡ Err x → Is (of_verification x)
    about true x told = absurd cc
    about false x told =
        subst (λ (y : VerificationError). Is (of_verification y))
        (err_is (verification.Signature signature.SubjectDigestMismatch) x told) (b, bundle_is, (c, passed, tt))

    supported : (r : Result (VerifyScheme × List ℕ) SigstoreError) (x : VerificationError)
        → or_unsupported r ≡ Err x → Is (of_verification x)
    supported (Ok key) x told = absurd cc
    supported (Err e) x told =
        subst (λ (y : VerificationError). Is (of_verification y))
        (err_is (verification.Signature signature.AlgoUnsupported) x told) (b, bundle_is, (c, passed, tt))

    content : (x : VerificationError) → content_answer o.checker.spki o.checker.prehash i.digest c ≡ Err x
        → Is (of_verification x)
    content x told =
        elim (bind_err (certificate_key_answer c.certificate.spki) _ x told) [
          | inl none ↦ supported (kind_answer c.certificate.spki (key_kind c.certificate.spki)) x none
          | inr key ↦ after key.0 key.2
        ] where
          after : (key : VerifyScheme × List ℕ)
              → (signature_answer (o.checker.spki key.0 key.1) (o.checker.prehash key.0 key.1) i.digest c.content
              c.signature >>= λ done. if_about (is_about c.content i.digest)) ≡ Err x → Is (of_verification x)
          after key rest =
              elim (bind_err (signature_answer (o.checker.spki key.0 key.1) (o.checker.prehash key.0 key.1) i.digest
              c.content c.signature) _ x rest) [
                | inl unsigned ↦
                    signed (o.checker.spki key.0 key.1) (o.checker.prehash key.0 key.1) i.digest c.content c.signature x
                    refl refl unsigned
                | inr some ↦ about (is_about c.content i.digest) x some.2
              ]

    timely : (a : Bool) (x : VerificationError)
        → ◌≡◌ {A = Answer} (Err x) (if a then Ok tt else Err (verification.Certificate certificate.Expired))
        → Is (of_verification x)
    timely true x told = absurd cc
    timely false x told =
        subst (λ (y : VerificationError). Is (of_verification y))
        (sym (same_refusal x (verification.Certificate certificate.Expired) told)) tt

    from_body : (x : VerificationError) → IsVerdictFromBody i.digest true c (Err x) → Is (of_verification x)
    from_body x (inl (held, last)) = timely _ x last
    from_body x (inr (other, told)) =
        subst (λ (y : VerificationError). Is (of_verification y))
        (sym (same_refusal x (verification.Signature signature.Transparency) told)) (b, bundle_is, (c, passed, tt))

    from_key : (r : Answer) → content_answer o.checker.spki o.checker.prehash i.digest c ≡ r → (x : VerificationError)
        → After r (IsVerdictFromBody i.digest true c) (Err x) → Is (of_verification x)
    from_key (Ok done) is x next = from_body x next
    from_key (Err y) is x next =
        subst (λ (z : VerificationError). Is (of_verification z)) (sym (same_refusal x y next)) (content y is)

    from_policy : (h : Bool) (x : VerificationError)
        → AfterPolicy h (o.policy.refusal c.certificate) (IsVerdictFromKey o.checker i.digest true c) (Err x)
        → Is (of_verification x)
    from_policy true x next =
        from_key (content_answer o.checker.spki o.checker.prehash i.digest c) refl x next
    from_policy false x (why, told, refused) =
        subst (λ (y : VerificationError). Is (of_verification y)) (sym (same_refusal x (verification.Policy why) told))
        (b, bundle_is, (c, passed, refused))

  -- ---- all of it

  module _ (root : TrustedRoot) (root_is : trusted_root_in i.root ≡ Ok root) (b : BundleType)
      (bundle_is : bundle_in i.bundle ≡ Ok b) where
    abbrev Verifies : Trusted → Type 0
    Verifies trusted = IsVerifierOf (authorities_of root i.now) (ct_keys_of root i.now) trusted

    from_issuance : (trusted : Trusted) → Verifies trusted → (c : Checked) → IsPassed b c → (r : Answer)
        → issued_answer o.checker.cert o.checker.point trusted c ≡ r → (x : VerificationError)
        → After r (IsVerdictFromPolicy o.checker o.policy i.digest true c) (Err x) → Is (of_verification x)
    from_issuance trusted verifies c passed (Ok done) is x next =
        from_policy b bundle_is c passed (o.policy.holds c.certificate) x next
    from_issuance trusted verifies c passed (Err y) is x next =
        subst (λ (z : VerificationError). Is (of_verification z)) (sym (same_refusal x y next))
        (issued laws.one o i read root root_is b bundle_is trusted verifies c passed y is)

    verdict : (trusted : Trusted) → Verifies trusted → (x : VerificationError)
        → IsVerdict o.checker trusted o.policy i.digest true b (Err x) → Is (of_verification x)
    verdict trusted verifies x (inl (kind, checked, told)) =
        subst (λ (y : VerificationError). Is (of_verification y)) (sym (same_refusal x (verification.Bundle kind) told))
        (b, bundle_is, (refusals b kind).0 checked)
    verdict trusted verifies x (inr (c, checked, from)) =
        from_issuance trusted verifies c ((laws.passed b c).0 checked)
        (issued_answer o.checker.cert o.checker.point trusted c) refl x from

    logged : (c : Checked) → IsPassed b c → (why : OfflineError)
        → IsVouchedIn o.checker.spki (rekor_keys root i.now) b (Err why) → Is why
    logged c passed why (entry, only, answer) =
        let keys : List (List ℕ × List ℕ) = rekor_keys root i.now in
        let said : log_entry_answer o.checker.spki keys c.entry ≡ Err why =
        ap (λ (e : TransparencyLogEntry). log_entry_answer o.checker.spki keys e) (one_entry b c entry passed only)
        ∙ sym answer in
        of_entry why (
          root,
          root_is,
          (
            b,
            bundle_is,
            (
              c,
              passed,
              (entry_errors_have_their_cause laws.proofs o.checker.spki keys c.entry
                  (read.logged root b c root_is bundle_is passed) why).0 said,
            ),
          ),
        )

    answered : (trusted : Trusted) → Verifies trusted → (answer : Answer)
        → IsVerdict o.checker trusted o.policy i.digest true b answer → (why : OfflineError)
        → AfterAnswer answer (IsVouchedIn o.checker.spki (rekor_keys root i.now) b) (Err why) → Is why
    answered trusted verifies (Err x) said why next =
        subst Is (sym (same_error why (of_verification x) next)) (verdict trusted verifies x said)
    answered trusted verifies (Ok done) (inl none) why next = absurd cc
    answered trusted verifies (Ok done) (inr (c, checked, from)) why next = logged c ((laws.passed b c).0 checked) why next

    rooted : (e : SigstoreError) → IsRefusedRoot (authorities_of root i.now) (ct_keys_of root i.now) e → Is (of_root e)
    rooted e (inl memory) = subst (λ (y : SigstoreError). Is (of_root y)) (sym memory) tt
    rooted e (inr (inl refused)) =
        subst (λ (y : SigstoreError). Is (of_root y))
        (sym (none_given part.Fulcio (authorities root i.now) e refused).1) tt
    rooted e (inr (inr (inl (place, told, (certificates, given, first))))) =
        subst (λ (y : SigstoreError). Is (of_root y)) (sym told) (
          root,
          root_is,
          subst (λ (ders : List (List ℕ)). IsFirstNoAnchor ders place)
              (sym (some_given part.Fulcio (authorities root i.now) certificates given).1) first,
        )
    rooted e (inr (inr (inr (has, refused)))) =
        subst (λ (y : SigstoreError). Is (of_root y)) (sym (none_given part.Ctfe (ct_keys root i.now) e refused).1) tt

    of_both : (why : OfflineError) → IsOfflineOf o.checker o.policy root i.now i.digest b (Err why) → Is why
    of_both why (inl (e, refused, told)) = subst Is (sym (same_error why (of_root e) told)) (rooted e refused)
    of_both why (inr (trusted, is, (answer, said, next))) = answered trusted is answer said why next

  bundled : (root : TrustedRoot) → trusted_root_in i.root ≡ Ok root → (found : Result BundleType JsonError)
      → bundle_in i.bundle ≡ found → (why : OfflineError)
      → AfterRead Bundle found (IsOfflineOf o.checker o.policy root i.now i.digest) (Err why) → Is why
  bundled root root_is (Err json) is why next = subst Is (sym (same_error why (error.Json Bundle json) next)) is
  bundled root root_is (Ok b) is why next = of_both root root_is b is why next

  texts : (found : Result TrustedRoot JsonError) → trusted_root_in i.root ≡ found → (why : OfflineError)
      → AfterRead Root found (λ root. IsOfflineIn o.checker o.policy root i.now i.digest i.bundle) (Err why) → Is why
  texts (Err json) is why next = subst Is (sym (same_error why (error.Json Root json) next)) is
  texts (Ok root) is why next = bundled root is (bundle_in i.bundle) refl why next

pub offline_errors_have_their_cause : Groups → RefusalsHaveTheirCause → OfflineErrorsHaveTheirCause
offline_errors_have_their_cause laws refusals o i read why is =
    texts laws refusals o i read (trusted_root_in i.root) refl why is
