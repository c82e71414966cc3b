-- What is made of a trusted root, and what is listed under it.
use Rattle.std.proofs.Common.{◌≡◌, ◌≢◌, ◌⊎◌, ℕ, ℤ, List, Option, Some, None, Result, Ok, Err, inl, inr, ap, refl}
use Rattle.std.proofs.Common.{subst, sym, ◌∙◌}
use Rattle.sig_base.proofs.OptionSteps.{some_is}
use Rattle.sig_base.specs.Answers.{UnlessMemory}
use Rattle.sig_base.specs.Rules.{FailsFirst}
use Rattle.sig_base.specs.declared.error.SigstoreError.{SigstoreError}
use Rattle.sig_base.specs.declared.error.SigstoreError.TheVariants as sigstore
use Rattle.sig_bundle.specs.BundleRecord.{bundle_in}
use Rattle.sig_bundle.specs.declared.bundle.Bundle.{Bundle}
use Rattle.sig_checked_bundle.proofs.Certificates.{OneCertificate}
use Rattle.sig_dsse.specs.declared.artifact_digest.ArtifactDigest.{ArtifactDigest}
use Rattle.sig_json.specs.declared.error.JsonError.{JsonError}
use Rattle.sig_json.specs.declared.error.JsonError.TheVariants as json
use Rattle.sig_root.specs.RootRecord.{trusted_root_in}
use Rattle.sig_root.specs.declared.record.TrustedRoot.{TrustedRoot}
use Rattle.sig_verify.proofs.RootVerdicts.{memory_or_other}
use Rattle.sig_verify.specs.LinkLaws.{RootsAreJudged}
use Rattle.sig_verify.specs.Links.{Inputs}
use Rattle.sig_verify.specs.OfflineErrors.{link_of, of_root}
use Rattle.sig_verify.specs.OfflineVerdict.{authorities_of, ct_keys_of}
use Rattle.sig_verify.specs.Outcome.{inputs_of}
use Rattle.sig_verify.specs.RootLinks.{HoldsOfRoot, root_links}
use Rattle.sig_verify.specs.Verifier.{IsRefusedRoot, IsVerifierOf, Trusted}
use Rattle.sig_verify.specs.declared.link.Link.{Link as LinkType}
use Rattle.sig_verify.specs.declared.link.Link.TheVariants.{RootJson}
use Rattle.sig_questions.proofs.Calls.{none_told, nothing_told}
use Rattle.sig_questions.proofs.Fronts.{all_hold, first_fails, root_fails}
use Rattle.sig_questions.specs.AskedRoot.{IsAnsweredOf, IsAnsweredUnder, IsAskedRootIn, IsAskedRootOf, IsTrustIn}
use Rattle.sig_questions.specs.AskedRoot.{IsTrustOf}
use Rattle.sig_questions.specs.Front.{HasTrust, IsFrontTold, IsPassedBundle, unread}
use Rattle.sig_questions.specs.Listed.{AreListedUnder, GivesTrust, IsAnswered, ListedTextsAreAnswered, Listing}
use Rattle.sig_questions.specs.Questions.{HoldsUnasked, IsDecided, question_links}
use Rattle.sig_questions.specs.declared.asked_root.AskedRoot.{AskedRoot}
use Rattle.sig_questions.specs.declared.asked_root.AskedTrust.{AskedTrust}
use Rattle.sig_questions.specs.declared.listing.NoQuestions.{NoQuestions}
use Rattle.sig_questions.specs.declared.listing.NoQuestions.TheVariants.{Link, TooLong, OutOfMemory}
use Rattle.sig_questions.specs.declared.trust.TrustParts.{TrustParts}

-- ---- what is made of a root, at the time that was handed in

module _ (law : RootsAreJudged) (root : TrustedRoot) (time : ℤ) where
  abbrev Verifies : Trusted → Type 0
  Verifies trusted = IsVerifierOf (authorities_of root time) (ct_keys_of root time) trusted

  pub has_trust : (trusted : Trusted) → Verifies trusted → HasTrust root time
  has_trust trusted is =
      let all = law.made root time trusted is in record { some = all.0; anchors = all.1.0; keys = all.1.1.0 }

  module _ (now : ℤ) (same : time ≡ now) where
    pub trust_given : (trusted : Trusted) (parts : TrustParts) → Verifies trusted → GivesTrust root time parts
        → (let trust : AskedTrust = record { verifier = trusted; parts = parts } in IsTrustIn root now (Ok trust))
    trust_given trusted parts is gives =
        let trust : AskedTrust = record { verifier = trusted; parts = parts } in
        subst (λ (t : ℤ). IsTrustIn root t (Ok trust)) same
        (record { links = law.made root time trusted is; verifier = is; parts = gives })

    pub link_given : (error : SigstoreError) (link : LinkType)
        → IsRefusedRoot (authorities_of root time) (ct_keys_of root time) error → link_of (of_root error) ≡ Some link
        → IsTrustIn root now (Err link)
    link_given error link refused named =
        subst (λ (t : ℤ). IsTrustIn root t (Err link)) same (by (memory_or_other root time error refused))
      where
        by : (error ≡ sigstore.OutOfMemory) ⊎ (error ≢ sigstore.OutOfMemory)
            → FailsFirst (HoldsOfRoot root time) root_links link
        by (inl memory) =
            absurd (let wrong : ◌≡◌ {A = Option LinkType} None (Some link) =
            subst (λ (e : SigstoreError). link_of (of_root e) ≡ Some link) memory named in cc)
        by (inr other) =
            let first = law.refused root time error refused other in
            subst (λ (l : LinkType). FailsFirst (HoldsOfRoot root time) root_links l)
            (some_is first.0 link (sym first.1 ∙ named)) first.2

pub asked_of : (text : List ℕ) (root given : TrustedRoot) (now time : ℤ) (asked : AskedRoot) → time ≡ now
    → given ≡ root → trusted_root_in text ≡ Ok root → IsTrustIn given time asked.trust → IsAskedRootOf text now asked
asked_of text root given now time asked same is read by_given = record {
  root = root;
  read = read;
  given =
      subst (λ (r : TrustedRoot). IsTrustIn r now asked.trust) is
      (subst (λ (t : ℤ). IsTrustIn given t asked.trust) same by_given);
}

-- why the text was not read
pub unread_of : (text : List ℕ) (now : ℤ) (error : JsonError)
    → (error ≡ json.OutOfMemory) ⊎ (trusted_root_in text ≡ Err error) → IsAskedRootIn text now (Err (unread RootJson error))
unread_of text now json.OutOfMemory why = tt
unread_of text now error (inl memory) = absurd cc
unread_of text now error (inr is) = (refl, (error, is))

-- what was read, at the time that was handed in
pub asked_there : (text : List ℕ) (now time : ℤ) (result : Result AskedRoot NoQuestions) → time ≡ now
    → IsAskedRootIn text time result → IsAskedRootIn text now result
asked_there text now time result same is = subst (λ (t : ℤ). IsAskedRootIn text t result) same is

-- ---- what is listed of a bundle

pub passed_front : (trusted : Trusted) (d : ArtifactDigest) (b : Bundle) (done : Unit {0})
    → IsFrontTold trusted d b (Ok done) → IsPassedBundle b
passed_front trusted d b done front = let issuance = front.1.1.1.1.1.1.1.1.0 in (issuance.0, issuance.1)

module _ (one : OneCertificate) (trust : AskedTrust) (d : ArtifactDigest) (b : Bundle) (most : ℕ) where
  pub list_told : ListedTextsAreAnswered → (done : Unit {0}) (result : Listing)
      → IsFrontTold trust.verifier d b (Ok done)
      → UnlessMemory OutOfMemory result (AreListedUnder trust.parts d b most result)
      → IsAnsweredUnder trust d b most result
  list_told law done result front (inl memory) root_text root now text root_is is bundle_is =
      nothing_told (inputs_of root_text now d text) most result memory
  list_told law done result front (inr listed) root_text root now text root_is is bundle_is =
      law (inputs_of root_text now d text) most result
      (all_hold (inputs_of root_text now d text) root root_is b bundle_is one trust.verifier is.verifier is.links front)
      (root, root_is, (b, bundle_is, listed root now is.parts))

  pub front_refused : (e : NoQuestions) → IsFrontTold trust.verifier d b (Err e) → IsAnsweredUnder trust d b most (Err e)
  front_refused e front root_text root now text root_is is bundle_is =
      none_told (inputs_of root_text now d text) most e (by e front)
    where
      by : (why : NoQuestions) → IsFrontTold trust.verifier d b (Err why)
          → IsDecided (inputs_of root_text now d text) most (Err why)
      by (Link link) fails =
          first_fails (inputs_of root_text now d text) root root_is b bundle_is one trust.verifier is.verifier is.links
          link fails
      by TooLong never = absurd never
      by OutOfMemory memory = tt

module _ (asked : AskedRoot) (d : ArtifactDigest) (b : Bundle) (most : ℕ) where
  pub under_told : (trust : AskedTrust) (result : Listing) → asked.trust ≡ Ok trust
      → IsAnsweredUnder trust d b most result → IsAnsweredOf asked d b most result
  under_told trust result there told root_text now text is bundle_is =
      told root_text is.root now text is.read
      (subst (λ (found : Result AskedTrust LinkType). IsTrustIn is.root now found) there is.given) bundle_is

  pub link_told : (link : LinkType) → asked.trust ≡ Err link → IsAnsweredOf asked d b most (Err (Link link))
  link_told link there root_text now text is bundle_is =
      none_told (inputs_of root_text now d text) most (Link link)
      (root_fails (inputs_of root_text now d text) is.root is.read b bundle_is link
      (subst (λ (found : Result AskedTrust LinkType). IsTrustIn is.root now found) there is.given))

-- ---- a text that is not a trusted root

pub root_refused : (root text : List ℕ) (now : ℤ) (d : ArtifactDigest) (most : ℕ) (e : NoQuestions)
    → IsAskedRootIn root now (Err e) → IsDecided (inputs_of root now d text) most (Err e)
root_refused root text now d most (Link link) (is, (why, read)) =
    inl (
      (λ of. let wrong : ◌≡◌ {A = Result TrustedRoot JsonError} (Err why) (Ok of.0) = sym read ∙ of.1 in cc),
      is,
    )
root_refused root text now d most TooLong never = absurd never
root_refused root text now d most OutOfMemory memory = tt
