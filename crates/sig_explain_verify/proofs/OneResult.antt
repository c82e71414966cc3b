-- The same inputs have one result of offline verification, except for what the error of a policy says.
use Rattle.std.proofs.Common.{◌≡◌, ◌≢◌, ◌⊎◌, ℕ, ℤ, Bool, true, false, List, [], Result, Ok, Err, inl}
use Rattle.std.proofs.Common.{◌≤◌, ap, arith, inr, refl, subst, sym, ◌∙◌}
use Rattle.std.proofs.Math.Path.{fun_ext}
use Rattle.sig_base.proofs.OptionSteps.{some_is}
use Rattle.sig_base.proofs.ResultSteps.{err_is, ok_is}
use Rattle.sig_base.proofs.PairedLists.{zip_one}
use Rattle.sig_base.specs.ResultSteps.{◌>>=◌}
use Rattle.sig_base.specs.declared.error.SigstoreError.{SigstoreError}
use Rattle.sig_base.specs.declared.error.SigstoreError.TheVariants as sigstore
use Rattle.sig_base.specs.declared.fault.PoolError.{PoolError}
use Rattle.sig_base.specs.declared.fault.PoolError.TheVariants as pool
use Rattle.sig_bundle.specs.BundleRecord.{bundle_in}
use Rattle.sig_bundle.specs.declared.bundle.Bundle.{Bundle as BundleType}
use Rattle.sig_bundle.specs.declared.material.TransparencyLogEntry.{TransparencyLogEntry}
use Rattle.sig_certificate.specs.Certificate.{Cert}
use Rattle.sig_checked_bundle.proofs.Certificates.{OneCertificate}
use Rattle.sig_checked_bundle.specs.Checked.{Checked}
use Rattle.sig_checked_bundle.specs.declared.bundle_error.BundleErrorKind.{BundleErrorKind}
use Rattle.sig_dsse.specs.declared.artifact_digest.ArtifactDigest.{ArtifactDigest}
use Rattle.sig_explain_verify.proofs.OneReading.{is_among, one_check}
use Rattle.sig_explain_verify.specs.OneTree.{IsOfLinks}
use Rattle.sig_json.specs.declared.error.JsonError.{JsonError}
use Rattle.sig_policy.specs.Refusals.{Refusal}
use Rattle.sig_policy.specs.declared.failure.PolicyError.{PolicyError}
use Rattle.sig_root.specs.RootRecord.{trusted_root_in}
use Rattle.sig_root.specs.declared.record.TrustedRoot.{TrustedRoot}
use Rattle.sig_timestamp.specs.Embedded.{ready}
use Rattle.sig_timestamp.specs.Keyring.{key_of}
use Rattle.sig_timestamp.specs.RingKey.{point_at}
use Rattle.sig_timestamp.specs.SctBytes.{judged}
use Rattle.sig_timestamp.specs.Timestamps.{sct_of}
use Rattle.sig_timestamp.specs.Vouched.{AcceptsPoint}
use Rattle.sig_timestamp.specs.declared.sct_error.SCTError.{SCTError}
use Rattle.sig_timestamp.specs.declared.signed.DigitallySigned.{DigitallySigned}
use Rattle.sig_verify.specs.ContentCheck.{content_answer}
use Rattle.sig_verify.specs.EntryLinks.{LogKeys}
use Rattle.sig_verify.specs.IssuerCheck.{from_sct, issued_answer, issuer_spki, sct_answer}
use Rattle.sig_verify.specs.LogEntry.{log_entry_answer}
use Rattle.sig_verify.specs.OfflineErrors.{of_root}
use Rattle.sig_verify.specs.OfflineVerdict.{AfterAnswer, AfterRead, IsOffline, IsOfflineIn, IsOfflineOf}
use Rattle.sig_verify.specs.OfflineVerdict.{IsVouchedIn, Outcome, authorities_of, ct_keys_of}
use Rattle.sig_verify.specs.RootLinks.{rekor_keys}
use Rattle.sig_verify.specs.Verdict.{After, AfterPolicy, Answer, Checker, IsVerdict, IsVerdictFromBody, IsVerdictFromKey}
use Rattle.sig_verify.specs.Verdict.{IsVerdictFromIssuance, IsVerdictFromPolicy, PolicyOf}
use Rattle.sig_verify.specs.Verifier.{Authorities, CtKeys, IsRefusedRoot, IsVerifierOf, Trusted, values_of}
use Rattle.sig_verify.specs.declared.error.VerificationError.TheVariants as verification
use Rattle.sig_verify.specs.declared.offline_error.OfflineError.TheVariants as error
use Rattle.sig_verify.specs.declared.offline_error.Part.{Part}
use Rattle.sig_verify.specs.declared.offline_error.Part.TheVariants.{Root, Bundle}
use Rattle.sig_x509.proofs.AnchorLaws.{first_refused}
use Rattle.sig_x509.specs.Issuance.{Accepts, AreAnchors, IsAnchor, IsFirstNoAnchor}
use Rattle.sig_x509.specs.Pool.{Pool, most_intermediates, pool_over}

-- ---- results that are shown alike

-- both are the errors of a policy
pub record BothPolicies (a b : Outcome) : Type 0 where
  pub why : PolicyError
  pub other : PolicyError
  pub first : a ≡ Err (error.Policy why)
  pub second : b ≡ Err (error.Policy other)

abbrev pub Alike : Outcome → Outcome → Type 0
Alike a b = (a ≡ b) ⊎ BothPolicies a b

-- the same of the links `material` to `time`
record BothRefused (a b : Answer) : Type 0 where
  why : PolicyError
  other : PolicyError
  first : a ≡ Err (verification.Policy why)
  second : b ≡ Err (verification.Policy other)

abbrev AlikeAnswers : Answer → Answer → Type 0
AlikeAnswers a b = (a ≡ b) ⊎ BothRefused a b

-- ---- the trusted root

one_first : (ders : List (List ℕ)) (p q : ℕ) → IsFirstNoAnchor ders p → IsFirstNoAnchor ders q → p ≡ q
one_first ders p q first second = by ((first_refused ders [] refused tt (few, first) q).1 (few, second)) where
  few : 0 ≤ most_intermediates
  few = omega arith

  refused : Result Pool PoolError
  refused = Err (pool.Anchor p)

  by : (refused ≡ Err pool.OutOfMemory) ⊎ (refused ≡ Err (pool.Anchor q)) → p ≡ q
  by (inl memory) = absurd cc
  by (inr is) = cc

not_first : (ders : List (List ℕ)) (cs : List Cert) (place : ℕ) → AreAnchors ders cs → IsFirstNoAnchor ders place → ⊥
not_first ders cs place are first = is_among IsAnchor ders cs place first.der are first.there first.no

not_both : {A E : Type 0} (r : Result A E) (x : A) (e : E) → r ≡ Ok x → r ≡ Err e → ⊥
not_both r x e is fails = let both = sym is ∙ fails in cc

module _ (given : Authorities) (logs : CtKeys) where
  -- a root is refused in one way, where memory did not run out
  one_refusal : (e f : SigstoreError) → e ≢ sigstore.OutOfMemory → f ≢ sigstore.OutOfMemory
      → IsRefusedRoot given logs e → IsRefusedRoot given logs f → e ≡ f
  one_refusal e f named also (inl memory) q = absurd (named memory)
  one_refusal e f named also (inr p) (inl memory) = absurd (also memory)
  one_refusal e f named also (inr (inl p)) (inr (inl q)) = err_is e f (sym p ∙ q)
  one_refusal e f named also (inr (inl p)) (inr (inr (inl (place, told, (ders, is, first))))) =
      absurd (not_both given ders e is p)
  one_refusal e f named also (inr (inl p)) (inr (inr (inr ((ders, cs, is, are), lacks)))) =
      absurd (not_both given ders e is p)
  one_refusal e f named also (inr (inr (inl (place, told, (ders, is, first))))) (inr (inl q)) =
      absurd (not_both given ders f is q)
  one_refusal e f named also (inr (inr (inl (place, told, (ders, is, first)))))
      (inr (inr (inl (index, said, (others, was, second))))) =
      let same = ok_is others ders (sym was ∙ is) in
      let moved = subst (λ (ts : List (List ℕ)). IsFirstNoAnchor ts index) same second in
      told ∙ ap (λ (n : ℕ). sigstore.CertificatePoolError (pool.Anchor n)) (one_first ders place index first moved)
      ∙ sym said
  one_refusal e f named also (inr (inr (inl (place, told, (ders, is, first)))))
      (inr (inr (inr ((others, cs, was, are), lacks)))) =
      let same = ok_is others ders (sym was ∙ is) in
      absurd (not_first ders cs place (subst (λ (ts : List (List ℕ)). AreAnchors ts cs) same are) first)
  one_refusal e f named also (inr (inr (inr ((ders, cs, is, are), lacks)))) (inr (inl q)) =
      absurd (not_both given ders f is q)
  one_refusal e f named also (inr (inr (inr ((ders, cs, is, are), lacks))))
      (inr (inr (inl (place, told, (others, was, first))))) =
      let same = ok_is ders others (sym is ∙ was) in
      absurd (not_first others cs place (subst (λ (ts : List (List ℕ)). AreAnchors ts cs) same are) first)
  one_refusal e f named also (inr (inr (inr (has, lacks)))) (inr (inr (inr (too, lacking)))) =
      err_is e f (sym lacks ∙ lacking)

  -- and what gives a verifier is not refused
  not_refused : (trusted : Trusted) (e : SigstoreError) → e ≢ sigstore.OutOfMemory → IsVerifierOf given logs trusted
      → IsRefusedRoot given logs e → ⊥
  not_refused trusted e named is (inl memory) = named memory
  not_refused trusted e named is (inr (inl refused)) = not_both given is.certificates e is.given refused
  not_refused trusted e named is (inr (inr (inl (place, told, (ders, given_too, first))))) =
      let same = ok_is is.certificates ders (sym is.given ∙ given_too) in
      not_first ders trusted.anchors place
      (subst (λ (ts : List (List ℕ)). AreAnchors ts trusted.anchors) same is.anchors) first
  not_refused trusted e named is (inr (inr (inr (has, lacks)))) = not_both logs is.keys e is.logs lacks

  module _ (one : OneCertificate) (trusted others : Trusted) (is : IsVerifierOf given logs trusted)
      (was : IsVerifierOf given logs others) where
    one_anchor : (der : List ℕ) (c d : Cert) → IsAnchor der c → IsAnchor der d → c ≡ d
    one_anchor der c d p q = one der c d p.certificate q.certificate

    same_anchors : trusted.anchors ≡ others.anchors
    same_anchors =
        let same = ok_is is.certificates was.certificates (sym is.given ∙ was.given) in
        zip_one IsAnchor IsAnchor one_anchor was.certificates trusted.anchors others.anchors
        (subst (λ (ts : List (List ℕ)). AreAnchors ts trusted.anchors) same is.anchors) was.anchors

    same_points : (id : List ℕ) → point_at trusted.ring id ≡ point_at others.ring id
    same_points id =
        let same = ok_is is.keys was.keys (sym is.logs ∙ was.logs) in
        is.ring id ∙ ap (λ (keys : LogKeys). key_of (values_of keys) id) same ∙ sym (was.ring id)

-- ---- the issuer and the SCT, under anchors and points

module _ (accepts : Accepts) (accepts_point : AcceptsPoint) (trusted others : Trusted)
    (points : (id : List ℕ) → point_at trusted.ring id ≡ point_at others.ring id) where
  same_judged : (d : DigitallySigned) → judged accepts_point d trusted.ring ≡ judged accepts_point d others.ring
  same_judged d = rw (points d.log_id) refl

  same_sct : (c : Cert) (spki : List ℕ)
      → sct_answer accepts_point trusted.ring c spki ≡ sct_answer accepts_point others.ring c spki
  same_sct c spki =
      ap (λ (f : DigitallySigned → Result (Unit {0}) SCTError). ready c spki (sct_of c) >>= f) (fun_ext same_judged)

  same_under : (anchors : List Cert) (c : Checked)
      → (issuer_spki accepts (pool_over anchors c.further) c.certificate
      >>= λ spki. from_sct (sct_answer accepts_point trusted.ring c.certificate spki))
      ≡ (issuer_spki accepts (pool_over anchors c.further) c.certificate
      >>= λ spki. from_sct (sct_answer accepts_point others.ring c.certificate spki))
  same_under anchors c =
      ap (λ (f : List ℕ → Answer). issuer_spki accepts (pool_over anchors c.further) c.certificate >>= f)
      (fun_ext (λ spki. ap from_sct (same_sct c.certificate spki)))

  same_issued : trusted.anchors ≡ others.anchors → (c : Checked)
      → issued_answer accepts accepts_point trusted c ≡ issued_answer accepts accepts_point others c
  same_issued anchors c =
      same_under trusted.anchors c
      ∙ ap (λ (cs : List Cert). issuer_spki accepts (pool_over cs c.further) c.certificate
      >>= λ spki. from_sct (sct_answer accepts_point others.ring c.certificate spki)) anchors

-- ---- the links `material` to `time`

after_alike : (step : Answer) (Next : Answer → Type 0) (a b : Answer) → (Next a → Next b → AlikeAnswers a b)
    → After step Next a → After step Next b → AlikeAnswers a b
after_alike (Ok done) Next a b alike p q = alike p q
after_alike (Err why) Next a b alike p q = inl (p ∙ sym q)

policy_alike : (holds : Bool) (refusal : Refusal) (Next : Answer → Type 0) (a b : Answer)
    → (Next a → Next b → AlikeAnswers a b) → AfterPolicy holds refusal Next a → AfterPolicy holds refusal Next b
    → AlikeAnswers a b
policy_alike true refusal Next a b alike p q = alike p q
policy_alike false refusal Next a b alike (why, told, is) (other, said, was) =
    inr (record { why = why; other = other; first = told; second = said })

module _ (one : OneCertificate) (k : Checker) (policy : PolicyOf) (d : ArtifactDigest) where
  from_body : (c : Checked) (a b : Answer) → IsVerdictFromBody d true c a → IsVerdictFromBody d true c b
      → AlikeAnswers a b
  from_body c a b (inl (has, p)) (inl (too, q)) = inl (p ∙ sym q)
  from_body c a b (inl (has, p)) (inr (lacks, q)) = absurd (lacks has)
  from_body c a b (inr (lacks, p)) (inl (has, q)) = absurd (lacks has)
  from_body c a b (inr (lacks, p)) (inr (too, q)) = inl (p ∙ sym q)

  from_key : (c : Checked) (a b : Answer) → IsVerdictFromKey k d true c a → IsVerdictFromKey k d true c b
      → AlikeAnswers a b
  from_key c a b =
      after_alike (content_answer k.spki k.prehash d c) (IsVerdictFromBody d true c) a b (from_body c a b)

  from_policy : (c : Checked) (a b : Answer) → IsVerdictFromPolicy k policy d true c a
      → IsVerdictFromPolicy k policy d true c b → AlikeAnswers a b
  from_policy c a b =
      policy_alike (policy.holds c.certificate) (policy.refusal c.certificate) (IsVerdictFromKey k d true c) a b
      (from_key c a b)

  from_issuance : (trusted : Trusted) (c : Checked) (a b : Answer)
      → IsVerdictFromIssuance k trusted policy d true c a → IsVerdictFromIssuance k trusted policy d true c b
      → AlikeAnswers a b
  from_issuance trusted c a b =
      after_alike (issued_answer k.cert k.point trusted c) (IsVerdictFromPolicy k policy d true c) a b
      (from_policy c a b)

  module _ (trusted others : Trusted) (issued : (c : Checked)
      → issued_answer k.cert k.point trusted c ≡ issued_answer k.cert k.point others c) where
    checked_alike : (c : Checked) (a b : Answer) → IsVerdictFromIssuance k trusted policy d true c a
        → IsVerdictFromIssuance k others policy d true c b → AlikeAnswers a b
    checked_alike c a b p q =
        from_issuance others c a b
        (subst (λ (r : Answer). After r (IsVerdictFromPolicy k policy d true c) a) (issued c) p) q

    verdicts_alike : (bundle : BundleType) (a b : Answer) → IsVerdict k trusted policy d true bundle a
        → IsVerdict k others policy d true bundle b → AlikeAnswers a b
    verdicts_alike bundle a b (inl (why, is, told)) (inl (other, was, said)) =
        let same = err_is why other (one_check one bundle (Err why) (Err other) is was) in
        inl (told ∙ ap (λ (e : BundleErrorKind). Err (verification.Bundle e)) same ∙ sym said)
    verdicts_alike bundle a b (inl (why, is, told)) (inr (c, was, from)) =
        absurd (let both = one_check one bundle (Err why) (Ok c) is was in cc)
    verdicts_alike bundle a b (inr (c, is, from)) (inl (why, was, said)) =
        absurd (let both = one_check one bundle (Ok c) (Err why) is was in cc)
    verdicts_alike bundle a b (inr (c, is, from)) (inr (o, was, next)) =
        let same = ok_is c o (one_check one bundle (Ok c) (Ok o) is was) in
        checked_alike o a b (subst (λ (x : Checked). IsVerdictFromIssuance k trusted policy d true x a) same from) next

  -- ---- all links

  vouched_alike : (keys : LogKeys) (bundle : BundleType) (a b : Outcome) → IsVouchedIn k.spki keys bundle a
      → IsVouchedIn k.spki keys bundle b → a ≡ b
  vouched_alike keys bundle a b (entry, only, is) (other, also, was) =
      is
      ∙ ap (λ (e : TransparencyLogEntry). log_entry_answer k.spki keys e) (some_is entry other (sym only ∙ also))
      ∙ sym was

  answered_alike : (keys : LogKeys) (bundle : BundleType) (answer : Answer) (a b : Outcome)
      → AfterAnswer answer (IsVouchedIn k.spki keys bundle) a → AfterAnswer answer (IsVouchedIn k.spki keys bundle) b
      → a ≡ b
  answered_alike keys bundle (Ok done) a b p q = vouched_alike keys bundle a b p q
  answered_alike keys bundle (Err why) a b p q = p ∙ sym q

  after_both : (keys : LogKeys) (bundle : BundleType) (x y : Answer) (a b : Outcome) → AlikeAnswers x y
      → AfterAnswer x (IsVouchedIn k.spki keys bundle) a → AfterAnswer y (IsVouchedIn k.spki keys bundle) b → Alike a b
  after_both keys bundle x y a b (inl same) p q =
      inl (answered_alike keys bundle y a b
      (subst (λ (r : Answer). AfterAnswer r (IsVouchedIn k.spki keys bundle) a) same p) q)
  after_both keys bundle x y a b (inr both) p q =
      inr (record {
        why = both.why;
        other = both.other;
        first = subst (λ (r : Answer). AfterAnswer r (IsVouchedIn k.spki keys bundle) a) both.first p;
        second = subst (λ (r : Answer). AfterAnswer r (IsVouchedIn k.spki keys bundle) b) both.second q;
      })

  -- an error that is that of a link is not out of memory
  not_memory : (e : SigstoreError) (a : Outcome) → a ≡ Err (of_root e) → IsOfLinks a → e ≢ sigstore.OutOfMemory
  not_memory e a is named memory =
      let of = subst IsOfLinks (is ∙ ap (λ (x : SigstoreError). Err (of_root x)) memory) named in
      let none = of.1 in cc

  of_root_alike : (root : TrustedRoot) (now : ℤ) (bundle : BundleType) (a b : Outcome) → IsOfLinks a → IsOfLinks b
      → IsOfflineOf k policy root now d bundle a → IsOfflineOf k policy root now d bundle b → Alike a b
  of_root_alike root now bundle a b named also (inl (e, is, told)) (inl (f, was, said)) =
      let same = one_refusal (authorities_of root now) (ct_keys_of root now) e f (not_memory e a told named)
      (not_memory f b said also) is was in
      inl (told ∙ ap (λ (x : SigstoreError). Err (of_root x)) same ∙ sym said)
  of_root_alike root now bundle a b named also (inl (e, is, told)) (inr (trusted, made, from)) =
      absurd (not_refused (authorities_of root now) (ct_keys_of root now) trusted e (not_memory e a told named) made is)
  of_root_alike root now bundle a b named also (inr (trusted, made, from)) (inl (e, is, told)) =
      absurd (not_refused (authorities_of root now) (ct_keys_of root now) trusted e (not_memory e b told also) made is)
  of_root_alike root now bundle a b named also (inr (trusted, made, (x, verdict, next)))
      (inr (others, too, (y, other, last))) =
      let given = authorities_of root now in
      let logs = ct_keys_of root now in
      let issued = same_issued k.cert k.point trusted others (same_points given logs one trusted others made too)
      (same_anchors given logs one trusted others made too) in
      after_both (rekor_keys root now) bundle x y a b (verdicts_alike trusted others issued bundle x y verdict other)
      next last

after_read : {A : Type 0} (part : Part) (read : Result A JsonError) (Next : A → Outcome → Type 0) (a b : Outcome)
    → ((value : A) → Next value a → Next value b → Alike a b) → AfterRead part read Next a → AfterRead part read Next b
    → Alike a b
after_read part (Ok value) Next a b alike p q = alike value p q
after_read part (Err why) Next a b alike p q = inl (p ∙ sym q)

-- the same inputs have one result, except for what the error of a policy says
pub one_result : OneCertificate → (k : Checker) (policy : PolicyOf) (root_text : List ℕ) (now : ℤ) (d : ArtifactDigest)
    (text : List ℕ) (a b : Outcome) → IsOfLinks a → IsOfLinks b → IsOffline k policy root_text now d text a
    → IsOffline k policy root_text now d text b → Alike a b
one_result one k policy root_text now d text a b named also =
    after_read Root (trusted_root_in root_text) (λ root. IsOfflineIn k policy root now d text) a b
    (λ root. after_read Bundle (bundle_in text) (IsOfflineOf k policy root now d) a b
    (λ bundle. of_root_alike one k policy d root now bundle a b named also))
