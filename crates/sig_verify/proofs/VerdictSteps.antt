-- The verdict on a bundle that passed its own checks: what each step that fails makes of it, and what comes after those
-- that do not.
use Rattle.std.proofs.Common.{◌≡◌, ◌≤◌, ℕ, Bool, true, false, List, Result, Ok, Err, inl, inr, length, refl, ap, subst}
use Rattle.std.proofs.Common.{sym, ◌∙◌}
use Rattle.std.specs.Prelude.{◌⊎◌}
use Rattle.sig_base.proofs.ResultSteps.{err_is}
use Rattle.sig_base.specs.Answers.{ComesWhere, OrMemory, UnlessMemory}
use Rattle.sig_base.specs.ResultSteps.{◌>>=◌}
use Rattle.sig_base.specs.Sha256.{sha256}
use Rattle.sig_base.specs.declared.scheme.VerifyScheme.{VerifyScheme}
use Rattle.sig_checked_bundle.proofs.Certificates.{further-few}
use Rattle.sig_checked_bundle.specs.Checked.{Checked, IsChecked}
use Rattle.sig_checked_bundle.specs.Passed.{IsPassed}
use Rattle.sig_bundle.specs.declared.bundle.Bundle.{Bundle}
use Rattle.sig_checked_bundle.specs.declared.bundle_error.BundleErrorKind.{BundleErrorKind}
use Rattle.sig_checked_bundle.specs.declared.bundle_error.BundleErrorKind.TheVariants as bundle
use Rattle.sig_dsse.specs.declared.artifact_digest.ArtifactDigest.{ArtifactDigest}
use Rattle.sig_policy.specs.Refusals.{Refusal}
use Rattle.sig_x509.specs.Pool.{pool_over}
use Rattle.sig_verify.specs.ContentCheck.{certificate_key_answer, content_answer, if_about, is_about, signature_answer}
use Rattle.sig_verify.specs.ContentCheck.{time_answer}
use Rattle.sig_verify.specs.Errors.{of_bundle}
use Rattle.sig_verify.specs.IssuerCheck.{from_sct, issued_answer, issuer_key_hash, issuer_spki, sct_answer_with}
use Rattle.sig_verify.specs.Verdict.{After, AfterBody, AfterPolicy, Answer, Checker, IsDone, IsVerdict, PolicyOf}
use Rattle.sig_verify.specs.Verdict.{IsVerdictFromBody, IsVerdictFromIssuance, IsVerdictFromKey, IsVerdictFromPolicy}
use Rattle.sig_verify.specs.Verifier.{Trusted}
use Rattle.sig_verify.specs.declared.error.VerificationError.{VerificationError}
use Rattle.sig_verify.specs.declared.error.VerificationError.TheVariants as refused
use Rattle.sig_verify.specs.declared.error.VerificationError.TheVariants.{OutOfMemory}

-- such a bundle has few further certificates
pub few_further : (b : Bundle) (c : Checked) → (let passed : Result Checked BundleErrorKind = Ok c in
    ComesWhere bundle.OutOfMemory passed (Ok c) (IsPassed b c)) → length c.further ≤ 16
few_further b c comes =
    let held = (comes.0 refl).certificate in
    further-few held.encodings c.certificate c.further held.read held.few

-- ---- one step

abbrev Unless : Answer → Type 0 → Type 0
Unless r P = UnlessMemory OutOfMemory r P

no_policy : (held : Bool) (refusal : Refusal) (e : VerificationError) (Next : Answer → Type 0)
    → AfterPolicy held refusal IsDone (Err e) → AfterPolicy held refusal Next (Err e)
no_policy true refusal e Next done = absurd (let wrong = done in cc)
no_policy false refusal e Next is = is

held_policy : (held : Bool) (refusal : Refusal) (result : Answer) (Next : Answer → Type 0)
    → AfterPolicy held refusal IsDone (Ok tt) → Next result → AfterPolicy held refusal Next result
held_policy true refusal result Next done next = next
held_policy false refusal result Next (why, is, _) next = absurd (let wrong = is in cc)

-- ---- a bundle that does not pass its own checks

named : (kind : BundleErrorKind) → (kind ≡ bundle.OutOfMemory) ⊎ (of_bundle kind ≡ refused.Bundle kind)
named bundle.OutOfMemory = inl refl
named bundle.VerificationMaterialMissing = inr refl
named bundle.VerificationMaterialContentUnsupported = inr refl
named (bundle.TooManyCertificates x) = inr refl
named (bundle.CertificateMalformed x) = inr refl
named bundle.CertificatesMissing = inr refl
named (bundle.NoLeaf x) = inr refl
named bundle.RootInChain = inr refl
named bundle.SignatureMissing = inr refl
named (bundle.DsseInvalidSignatureCount x) = inr refl
named bundle.DssePayloadDecode = inr refl
named (bundle.DsseTooManySubjects x) = inr refl
named (bundle.DsseTooManySubjectDigests x) = inr refl
named (bundle.DsseSubjectDigestMalformed x) = inr refl
named bundle.DsseNoRecognizedSubjectDigest = inr refl
named (bundle.TlogEntry x) = inr refl
named (bundle.BundleProfile x) = inr refl

pub not_passed : (k : Checker) (trusted : Trusted) (policy : PolicyOf) (d : ArtifactDigest) (offline : Bool) (b : Bundle)
    (kind : BundleErrorKind) → (let r : Result Checked BundleErrorKind = Err kind in
    UnlessMemory bundle.OutOfMemory r (IsChecked b r))
    → Unless (Err (of_bundle kind)) (IsVerdict k trusted policy d offline b (Err (of_bundle kind)))
not_passed k trusted policy d offline b kind (inl memory) =
    inl (ap (λ (x : BundleErrorKind). Err (of_bundle x)) (err_is kind bundle.OutOfMemory memory))
not_passed k trusted policy d offline b kind (inr is) = elim (named kind) [
  | inl memory ↦ inl (ap (λ (x : BundleErrorKind). Err (of_bundle x)) memory)
  | inr same ↦ inr (inl (kind, is, ap Err same))
]

-- ---- a bundle that does

pub after_checks : (k : Checker) (trusted : Trusted) (policy : PolicyOf) (d : ArtifactDigest) (offline : Bool)
    (b : Bundle) (c : Checked) → (let r : Result Checked BundleErrorKind = Ok c in
    UnlessMemory bundle.OutOfMemory r (IsChecked b r)) → (result : Answer)
    → Unless result (IsVerdictFromIssuance k trusted policy d offline c result)
    → Unless result (IsVerdict k trusted policy d offline b result)
after_checks k trusted policy d offline b c passed result (inl memory) = inl memory
after_checks k trusted policy d offline b c (inl wrong) result (inr is) = absurd cc
after_checks k trusted policy d offline b c (inr checked) result (inr is) = inr (inr (c, checked, is))

-- ---- the steps after them, in order

module _ (k : Checker) (trusted : Trusted) (policy : PolicyOf) (d : ArtifactDigest) (offline : Bool) (c : Checked) where
  abbrev Verdict : Answer → Type 0
  Verdict result = Unless result (IsVerdictFromIssuance k trusted policy d offline c result)

  issuing : (result answer : Answer) → issued_answer k.cert k.point trusted c ≡ answer
      → After answer (IsVerdictFromPolicy k policy d offline c) result → Verdict result
  issuing result answer is after =
      inr (subst (λ (r : Answer). After r (IsVerdictFromPolicy k policy d offline c) result) (sym is) after)

  -- what the certificate's key makes of the content, and then the subject
  abbrev of_key : VerifyScheme × List ℕ → Answer
  of_key key =
      signature_answer (k.spki key.0 key.1) (k.prehash key.0 key.1) d c.content c.signature
      >>= λ _. if_about (is_about c.content d)

  -- what the SCT is under the issuer's key, by its hash
  abbrev of_issuer : List ℕ → Answer
  of_issuer hash = from_sct (sct_answer_with k.point trusted.ring c.certificate hash)

  abbrev Issuer : Result (List ℕ) VerificationError → Type 0
  Issuer answer = issuer_key_hash k.cert (pool_over trusted.anchors c.further) c.certificate ≡ answer

  by_hash : issued_answer k.cert k.point trusted c
      ≡ (issuer_key_hash k.cert (pool_over trusted.anchors c.further) c.certificate >>= of_issuer)
  by_hash = by (issuer_spki k.cert (pool_over trusted.anchors c.further) c.certificate)
    where
      by : (r : Result (List ℕ) VerificationError) → (r >>= λ spki. of_issuer (sha256 spki))
          ≡ (r >>= (λ spki. Ok (sha256 spki)) >>= of_issuer)
      by (Ok spki) = refl
      by (Err e) = refl

  pub issuer_failed : (e : VerificationError) → OrMemory OutOfMemory e (Issuer (Err e)) → Verdict (Err e)
  issuer_failed e (inl memory) = inl (ap Err memory)
  issuer_failed e (inr is) =
      issuing (Err e) (Err e) (by_hash ∙ ap (λ (r : Result (List ℕ) VerificationError). r >>= of_issuer) is) refl

  module _ (hash : List ℕ) (found : Issuer (Ok hash)) where
    issued : (answer : Answer) → of_issuer hash ≡ answer → issued_answer k.cert k.point trusted c ≡ answer
    issued answer is = by_hash ∙ ap (λ (r : Result (List ℕ) VerificationError). r >>= of_issuer) found ∙ is

    pub sct_failed : (e : VerificationError) → OrMemory OutOfMemory e (of_issuer hash ≡ Err e) → Verdict (Err e)
    sct_failed e (inl memory) = inl (ap Err memory)
    sct_failed e (inr is) = issuing (Err e) (Err e) (issued (Err e) is) refl

    module _ (vouched : of_issuer hash ≡ Ok tt) where
      abbrev AfterPolicyOf : (Answer → Type 0) → Answer → Type 0
      AfterPolicyOf Next = AfterPolicy (policy.holds c.certificate) (policy.refusal c.certificate) Next

      pub policy_failed : (e : VerificationError) → Unless (Err e) (AfterPolicyOf IsDone (Err e)) → Verdict (Err e)
      policy_failed e (inl memory) = inl memory
      policy_failed e (inr is) =
          issuing (Err e) (Ok tt) (issued (Ok tt) vouched)
          (no_policy (policy.holds c.certificate) (policy.refusal c.certificate) e
          (IsVerdictFromKey k d offline c) is)

      module _ (held : Unless (Ok tt) (AfterPolicyOf IsDone (Ok tt))) where
        keyed : (result answer : Answer) → content_answer k.spki k.prehash d c ≡ answer
            → After answer (IsVerdictFromBody d offline c) result → Verdict result
        keyed result answer is after =
            issuing result (Ok tt) (issued (Ok tt) vouched)
            (held_policy (policy.holds c.certificate) (policy.refusal c.certificate) result
            (IsVerdictFromKey k d offline c)
            (elim held [ inl memory ↦ absurd (let wrong = memory in cc) | inr done ↦ done ])
            (subst (λ (r : Answer). After r (IsVerdictFromBody d offline c) result) (sym is) after))

        abbrev Key : Result (VerifyScheme × List ℕ) VerificationError → Type 0
        Key answer = certificate_key_answer c.certificate.spki ≡ answer

        pub key_failed : (e : VerificationError) → OrMemory OutOfMemory e (Key (Err e)) → Verdict (Err e)
        key_failed e (inl memory) = inl (ap Err memory)
        key_failed e (inr is) =
            keyed (Err e) (Err e) (ap (λ (r : Result (VerifyScheme × List ℕ) VerificationError). r >>= of_key) is) refl

        module _ (key : VerifyScheme × List ℕ) (there : Key (Ok key)) where
          abbrev Signed : Answer → Type 0
          Signed answer =
              answer ≡ signature_answer (k.spki key.0 key.1) (k.prehash key.0 key.1) d c.content c.signature

          by_key : (answer : Answer) → of_key key ≡ answer → content_answer k.spki k.prehash d c ≡ answer
          by_key answer is =
              ap (λ (r : Result (VerifyScheme × List ℕ) VerificationError). r >>= of_key) there ∙ is

          pub signature_failed : (e : VerificationError) → Signed (Err e) → Verdict (Err e)
          signature_failed e is =
              keyed (Err e) (Err e)
              (by_key (Err e) (ap (λ (r : Answer). r >>= λ _. if_about (is_about c.content d)) (sym is))) refl

          module _ (signed : Signed (Ok tt)) where
            about : (answer : Answer) → if_about (is_about c.content d) ≡ answer
                → content_answer k.spki k.prehash d c ≡ answer
            about answer is =
                by_key answer (ap (λ (r : Answer). r >>= λ _. if_about (is_about c.content d)) (sym signed) ∙ is)

            abbrev Subject : Answer → Type 0
            Subject answer = answer ≡ if_about (is_about c.content d)

            pub subject_failed : (e : VerificationError) → Subject (Err e) → Verdict (Err e)
            subject_failed e is = keyed (Err e) (Err e) (about (Err e) (sym is)) refl

            module _ (is_subject : Subject (Ok tt)) where
              pub body_failed : (e : VerificationError)
                  → Unless (Err e) (AfterBody c d offline IsDone (Err e)) → Verdict (Err e)
              body_failed e (inl memory) = inl memory
              body_failed e (inr (inl done)) = absurd (let wrong = done.1 in cc)
              body_failed e (inr (inr is)) = keyed (Err e) (Ok tt) (about (Ok tt) (sym is_subject)) (inr is)

              pub all_passed : Unless (Ok tt) (AfterBody c d offline IsDone (Ok tt)) → (result : Answer)
                  → result ≡ time_answer c → Verdict result
              all_passed (inl memory) result last = absurd (let wrong = memory in cc)
              all_passed (inr (inl done)) result last =
                  keyed result (Ok tt) (about (Ok tt) (sym is_subject)) (inl (done.0, last))
              all_passed (inr (inr is)) result last = absurd (let wrong = is.1 in cc)
