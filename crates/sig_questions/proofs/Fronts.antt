-- The links before `issuer`, which ask for no signature, and the links that fail whatever the checker says.
use Rattle.std.proofs.Common.{◌≡◌, ◌↔◌, ℕ, Bool, true, false, List, [], ◌∷◌, ◌++◌, Option, Some, Result, Err, Ok}
use Rattle.std.proofs.Common.{inl, inr, refl, sym, ap, subst, ◌∙◌}
use Rattle.std.specs.List.{AllByRecursion}
use Rattle.sig_base.proofs.ResultSteps.{err_is}
use Rattle.sig_base.specs.Answers.{UnlessMemory}
use Rattle.sig_base.specs.Rules.{FailsFirst}
use Rattle.sig_bundle.specs.BundleRecord.{bundle_in}
use Rattle.sig_bundle.specs.declared.bundle.Bundle.{Bundle}
use Rattle.sig_certificate.specs.Certificate.{Cert}
use Rattle.sig_checked_bundle.proofs.Certificates.{OneCertificate}
use Rattle.sig_dsse.specs.declared.artifact_digest.ArtifactDigest.{ArtifactDigest}
use Rattle.sig_policy.specs.Refusals.{not_found}
use Rattle.sig_root.specs.RootRecord.{trusted_root_in}
use Rattle.sig_root.specs.declared.record.TrustedRoot.{TrustedRoot}
use Rattle.sig_verify.proofs.JudgedLaws.{Alike, all_as, all_joined, fails_after, fails_as, fails_front}
use Rattle.sig_verify.proofs.LinkGroups.{roots_alike, verified_alike}
use Rattle.sig_verify.proofs.Parts.{checked_as, of_checked}
use Rattle.sig_verify.specs.BundleLinks.{bundle_links}
use Rattle.sig_verify.specs.CertificateLinks.{HasIssuer, Trust, certificate_links}
use Rattle.sig_verify.specs.LinkLaws.{HoldsOfVerified, trust_of}
use Rattle.sig_verify.specs.Links.{HoldsOf, Inputs, Outside, chain_links}
use Rattle.sig_verify.specs.OfflineErrors.{link_of, of_verification}
use Rattle.sig_verify.specs.OfflineVerdict.{authorities_of, ct_keys_of}
use Rattle.sig_verify.specs.Outcome.{ShowsFirstOfBundle}
use Rattle.sig_verify.specs.RootLinks.{HoldsOfRoot, root_links}
use Rattle.sig_verify.specs.Verdict.{Answer}
use Rattle.sig_verify.specs.Verifier.{IsVerifierOf, Trusted}
use Rattle.sig_verify.specs.declared.error.VerificationError.{VerificationError}
use Rattle.sig_verify.specs.declared.error.VerificationError.TheVariants.{OutOfMemory}
use Rattle.sig_verify.specs.declared.link.Link.{Link}
use Rattle.sig_verify.specs.declared.link.Link.TheVariants.{RootJson, BundleJson, Issuer, Sct, Policy, Key, Signature}
use Rattle.sig_verify.specs.declared.link.Link.TheVariants.{Subject, Body, Time, LogKey, Promise, Proof, Checkpoint}
use Rattle.sig_verify.specs.declared.link.Link.TheVariants.{NoteKey, NoteMatch, Inclusion}
use Rattle.sig_x509.specs.Pool.{Pool, pool_over}
use Rattle.sig_x509.specs.Path.{every_signature}
use Rattle.sig_questions.proofs.Issuers.{first_signed, some_issuer, would_hold}
use Rattle.sig_questions.specs.Asked.{issuer_in}
use Rattle.sig_questions.specs.Front.{HoldsOfUnasked, IsFrontTold, bundle_front, front_result}
use Rattle.sig_questions.specs.Questions.{HoldsUnasked, RefusalsAreForAll, accepting, front_links, question_links}

-- ---- rules up to one

abbrev is_issuer : Link → Bool
is_issuer Issuer = true
is_issuer other = false

held_before : (Holds : Link → Type 0) (xs ys : List Link) → AllByRecursion (λ l. is_issuer l ≡ false) xs
    → FailsFirst Holds (xs ++ Issuer ∷ ys) Issuer → AllByRecursion Holds xs
held_before Holds [] ys apart fails = tt
held_before Holds (x ∷ xs) ys apart (inl now) =
    absurd (let wrong : true ≡ false = ap is_issuer now.1 ∙ apart.0 in cc)
held_before Holds (x ∷ xs) ys apart (inr later) = (later.0, held_before Holds xs ys apart.1 later.1)

fails_not : (Holds : Link → Type 0) (xs : List Link) (link : Link) → FailsFirst Holds xs link → ¬ Holds link
fails_not Holds [] link fails holds = fails
fails_not Holds (x ∷ xs) link (inl now) holds = now.0 (subst Holds now.1 holds)
fails_not Holds (x ∷ xs) link (inr later) holds = fails_not Holds xs link later.1 holds

-- rules that hold alike up to one: the first that fails of these fails first of all
among_all : (P Q : Link → Type 0) (xs ys : List Link) (stop link : Link) → Alike P Q xs → (Q stop → P stop)
    → FailsFirst P (xs ++ stop ∷ []) link → FailsFirst Q (xs ++ stop ∷ ys) link
among_all P Q [] ys stop link alike too (inl now) = inl ((λ q. now.0 (too q)), now.1)
among_all P Q [] ys stop link alike too (inr later) = absurd later.1
among_all P Q (x ∷ xs) ys stop link alike too (inl now) = inl ((λ q. now.0 (alike.0.1 q)), now.1)
among_all P Q (x ∷ xs) ys stop link alike too (inr later) =
    inr (alike.0.0 later.0, among_all P Q xs ys stop link alike.1 too later.1)

-- and the first of all that fails fails first of these, since that one does not hold
among_first : (P Q : Link → Type 0) (xs ys : List Link) (stop link : Link) → Alike P Q xs → ¬ Q stop
    → (link ≡ stop → ¬ P stop) → FailsFirst Q (xs ++ stop ∷ ys) link → FailsFirst P (xs ++ stop ∷ []) link
among_first P Q [] ys stop link alike denied never (inl now) = inl (never now.1, now.1)
among_first P Q [] ys stop link alike denied never (inr later) = absurd (denied later.0)
among_first P Q (x ∷ xs) ys stop link alike denied never (inl now) = inl ((λ p. now.0 (alike.0.0 p)), now.1)
among_first P Q (x ∷ xs) ys stop link alike denied never (inr later) =
    inr (alike.0.1 later.0, among_first P Q xs ys stop link alike.1 denied never later.1)

-- ---- the links

-- those after `issuer`
abbrev pub after_issuer : List Link
after_issuer =
    Sct ∷ Policy ∷ Key ∷ Signature ∷ Subject ∷ Body ∷ Time
    ∷ LogKey ∷ Promise ∷ Proof ∷ Checkpoint ∷ NoteKey ∷ NoteMatch ∷ Inclusion ∷ []

same : {A : Type 0} → A ↔ A
same = ((λ x. x), (λ x. x))

-- no checker is asked
pub front_alike : (o p : Outside) (i : Inputs) → Alike (HoldsOf o i) (HoldsOf p i) front_links
front_alike o p i =
    (same, (same, (same, (same, (same, (same, (same, (same, (same, (same, (same, (same, (same, (same, tt))))))))))))))

-- a checker that accepts no certificate has no issuer
pub silent : (o : Outside) (i : Inputs)
    → ((issuer algorithm tbs signature : List ℕ) → o.checker.cert issuer algorithm tbs signature ≡ false)
    → ¬ HoldsOf o i Issuer
silent o i denied =
    of_checked i (λ trust c. HasIssuer o.checker trust c) ⊥ (λ p of.
    let c : Cert = p.parts.checked.certificate in
    let path = of.first.path in
    let signed = first_signed o.checker.cert c path.over path.anchor path.path.signed in
    let wrong : true ≡ false = sym signed.genuine
    ∙ denied (issuer_in path.over path.anchor).spki c.algorithm c.tbs c.signature in cc)

-- a path that leads to a trust anchor may do so
pub issuer_unasked : (o : Outside) (i : Inputs) → HoldsOf o i Issuer → HoldsUnasked i Issuer
issuer_unasked o i =
    checked_as i (λ trust c. HasIssuer o.checker trust c)
    (λ trust c. HasIssuer accepting.checker trust c)
    (λ p of.
    let c : Cert = p.parts.checked.certificate in
    let over : Pool = pool_over p.anchors p.parts.checked.further in
    let path = of.first.path in
    some_issuer every_signature over c path.over path.anchor
    (would_hold over c c.not_before o.checker.cert path.over path.anchor path.path))

abbrev denying : Outside
denying = record {
  checker = record {
    spki = λ scheme spki message signature. false;
    prehash = λ scheme spki digest signature. false;
    point = λ point message signature. false;
    cert = λ issuer algorithm tbs signature. false;
  };
  policy = record { holds = λ c. true; refusal = λ c. not_found };
}

-- a link fails first without a question if and only if it does so whatever the checker says
pub refusals_for_all : RefusalsAreForAll
refusals_for_all i link = (
  (λ fails o. among_all (HoldsUnasked i) (HoldsOf o i) front_links after_issuer Issuer link
      (front_alike accepting o i) (issuer_unasked o i) fails),
  (λ all. among_first (HoldsUnasked i) (HoldsOf denying i) front_links after_issuer Issuer link
      (front_alike accepting denying i) (silent denying i (λ issuer algorithm tbs signature. refl))
      (λ is. fails_not (HoldsUnasked i) chain_links Issuer
      (subst (λ (l : Link). FailsFirst (HoldsUnasked i) chain_links l) is (all accepting))) (all denying)),
)

-- ---- the links of a bundle, under what a verifier trusts

-- those after `issuer`
abbrev bundle_rest : List Link
bundle_rest = Sct ∷ Policy ∷ Key ∷ Signature ∷ Subject ∷ Body ∷ Time ∷ []

apart : AllByRecursion (λ (l : Link). is_issuer l ≡ false) bundle_front
apart = (refl, (refl, (refl, (refl, (refl, (refl, (refl, (refl, (refl, tt)))))))))

abbrev OfBundle : Outside → Trusted → ArtifactDigest → Bundle → Link → Type 0
OfBundle o trusted d b = HoldsOfVerified o.checker o.policy (trust_of trusted) d true b

-- no checker is asked
bundle_alike : (o p : Outside) (trusted : Trusted) (d : ArtifactDigest) (b : Bundle)
    → Alike (OfBundle o trusted d b) (OfBundle p trusted d b) bundle_front
bundle_alike o p trusted d b = (same, (same, (same, (same, (same, (same, (same, (same, (same, tt)))))))))

module _ (o : Outside) (trusted : Trusted) (d : ArtifactDigest) (b : Bundle)
    (denied : (issuer algorithm tbs signature : List ℕ) → o.checker.cert issuer algorithm tbs signature ≡ false) where
  -- a checker that accepts no certificate has no issuer
  silent_bundle : ¬ OfBundle o trusted d b Issuer
  silent_bundle (checked, passed, of) =
      let c : Cert = checked.certificate in
      let path = of.first.path in
      let signed = first_signed o.checker.cert c path.over path.anchor path.path.signed in
      let wrong : true ≡ false = sym signed.genuine
      ∙ denied (issuer_in path.over path.anchor).spki c.algorithm c.tbs c.signature in cc

  told_link : (link : Link) → FailsFirst (OfBundle o trusted d b) (bundle_links ++ certificate_links) link
      → IsFrontTold trusted d b (front_result (Some link))
  told_link Issuer fails =
      all_as (OfBundle o trusted d b) (HoldsOfUnasked trusted d b) bundle_front
      (bundle_alike o accepting trusted d b)
      (held_before (OfBundle o trusted d b) bundle_front bundle_rest apart fails)
  told_link link fails =
      among_first (HoldsOfUnasked trusted d b) (OfBundle o trusted d b) bundle_front bundle_rest Issuer link
      (bundle_alike accepting o trusted d b) silent_bundle (λ is p. cc) fails

  -- what the error of the first link that fails says
  pub front_told : (error : VerificationError) → (let answer : Answer = Err error in
      UnlessMemory OutOfMemory answer (ShowsFirstOfBundle o trusted d true b answer))
      → IsFrontTold trusted d b (front_result (link_of (of_verification error)))
  front_told error (inl memory) =
      subst (λ (e : VerificationError). IsFrontTold trusted d b (front_result (link_of (of_verification e))))
      (sym (err_is error OutOfMemory memory)) tt
  front_told error (inr (link, is, fails)) =
      subst (λ (l : Option Link). IsFrontTold trusted d b (front_result l)) (sym is) (told_link link fails)

  -- not all hold
  pub never_all : (done : Unit {0}) → (let answer : Answer = Ok done in
      UnlessMemory OutOfMemory answer (ShowsFirstOfBundle o trusted d true b answer)) → ⊥
  never_all done (inl memory) = absurd (let wrong = memory in cc)
  never_all done (inr all) = silent_bundle all.1.1.1.1.1.1.1.1.1.0

-- ---- the links of the texts of a root and of a bundle

all_front : (P : Link → Type 0) (xs ys : List Link) → AllByRecursion P (xs ++ ys) → AllByRecursion P xs
all_front P [] ys all = tt
all_front P (x ∷ xs) ys all = (all.0, all_front P xs ys all.1)

module _ (i : Inputs) (root : TrustedRoot) (root_is : trusted_root_in i.root ≡ Ok root) (b : Bundle)
    (bundle_is : bundle_in i.bundle ≡ Ok b) where
  abbrev rest_links : List Link
  rest_links = bundle_front ++ Issuer ∷ []

  texts_hold : AllByRecursion (HoldsUnasked i) (RootJson ∷ BundleJson ∷ [])
  texts_hold = ((root, root_is, tt), ((b, bundle_is, tt), tt))

  pub root_fails : (link : Link) → FailsFirst (HoldsOfRoot root i.now) root_links link
      → FailsFirst (HoldsUnasked i) question_links link
  root_fails link fails =
      fails_after (HoldsUnasked i) (RootJson ∷ BundleJson ∷ []) (root_links ++ rest_links) link texts_hold
      (fails_front (HoldsUnasked i) root_links rest_links link
      (fails_as (HoldsOfRoot root i.now) (HoldsUnasked i) root_links link (roots_alike accepting i root root_is) fails))

  module _ (one : OneCertificate) (trusted : Trusted)
      (is : IsVerifierOf (authorities_of root i.now) (ct_keys_of root i.now) trusted)
      (links : AllByRecursion (HoldsOfRoot root i.now) root_links) where
    root_holds : AllByRecursion (HoldsUnasked i) (RootJson ∷ BundleJson ∷ root_links)
    root_holds =
        all_joined (HoldsUnasked i) (RootJson ∷ BundleJson ∷ []) root_links texts_hold
        (all_as (HoldsOfRoot root i.now) (HoldsUnasked i) root_links (roots_alike accepting i root root_is) links)

    rest_alike : Alike (HoldsOfUnasked trusted i.digest b) (HoldsUnasked i) rest_links
    rest_alike =
        all_front (λ l. HoldsOfUnasked trusted i.digest b l ↔ HoldsUnasked i l) rest_links bundle_rest
        (verified_alike accepting i root root_is b bundle_is one trusted is)

    pub all_hold : AllByRecursion (HoldsOfUnasked trusted i.digest b) bundle_front
        → AllByRecursion (HoldsUnasked i) front_links
    all_hold all =
        all_joined (HoldsUnasked i) (RootJson ∷ BundleJson ∷ root_links) bundle_front root_holds
        (all_as (HoldsOfUnasked trusted i.digest b) (HoldsUnasked i) bundle_front
        (all_front (λ l. HoldsOfUnasked trusted i.digest b l ↔ HoldsUnasked i l) bundle_front (Issuer ∷ []) rest_alike)
        all)

    pub first_fails : (link : Link) → FailsFirst (HoldsOfUnasked trusted i.digest b) rest_links link
        → FailsFirst (HoldsUnasked i) question_links link
    first_fails link fails =
        fails_after (HoldsUnasked i) (RootJson ∷ BundleJson ∷ root_links) rest_links link root_holds
        (fails_as (HoldsOfUnasked trusted i.digest b) (HoldsUnasked i) rest_links link rest_alike fails)
