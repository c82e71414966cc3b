-- The links `material` to `time`: the result of a verifier says which of them fails first.
use Rattle.std.proofs.Common.{◌≡◌, ◌↔◌, ℕ, Bool, List, [], ◌∷◌, ◌++◌, Option, Ok, inl, inr, sym, ap, subst, ◌∙◌}
use Rattle.sig_base.proofs.OptionSteps.{some_is}
use Rattle.sig_base.proofs.ResultSteps.{ok_is}
use Rattle.sig_base.specs.Answers.{UnlessMemory}
use Rattle.sig_checked_bundle.proofs.Certificates.{OneCertificate, certificates_one}
use Rattle.sig_checked_bundle.proofs.ContentLaws.{content-meant}
use Rattle.sig_checked_bundle.specs.Checked.{Checked, IsChecked}
use Rattle.sig_checked_bundle.specs.Content.{ContentWithSignature}
use Rattle.sig_checked_bundle.specs.Passed.{IsContentOf, IsPassed}
use Rattle.sig_checked_bundle.specs.SigningCertificate.{encodings_in}
use Rattle.sig_bundle.specs.declared.bundle.Bundle.{Bundle}
use Rattle.sig_bundle.specs.declared.bundle.Content.{Content}
use Rattle.sig_checked_bundle.specs.declared.content_check.CheckedContent.{CheckedContent}
use Rattle.sig_bundle.specs.declared.material.TransparencyLogEntry.{TransparencyLogEntry}
use Rattle.sig_bundle.specs.declared.material.VerificationMaterial.{VerificationMaterial}
use Rattle.sig_certificate.specs.Certificate.{Cert}
use Rattle.sig_certificate.specs.Certificates.{AreCertificates}
use Rattle.sig_dsse.specs.declared.artifact_digest.ArtifactDigest.{ArtifactDigest}
use Rattle.sig_rekor.proofs.Steps.{head_is}
use Rattle.sig_verify.proofs.CheckedBundles.{judged_trusted}
use Rattle.sig_verify.proofs.JudgedLaws.{alike_each, fails_front, judged_as, judged_later, judged_tells}
use Rattle.sig_verify.specs.BundleLinks.{bundle_links}
use Rattle.sig_verify.specs.CertificateLinks.{HoldsOfChecked, certificate_links}
use Rattle.sig_verify.specs.Judged.{Judged, Tells}
use Rattle.sig_verify.specs.LinkLaws.{BundlesAreJudged, HoldsOfVerified, IsReadCertificate, OfPassedBundle, renamed}
use Rattle.sig_verify.specs.LinkLaws.{trust_of}
use Rattle.sig_verify.specs.Verdict.{Answer, Checker, IsVerdict, PolicyOf}
use Rattle.sig_verify.specs.Verifier.{Trusted}
use Rattle.sig_verify.specs.declared.error.VerificationError.TheVariants.{OutOfMemory}
use Rattle.sig_verify.specs.declared.link.Link.{Link}

-- the content of a bundle is kept in one way
one_content : (content : Option Content) (a b : List ℕ) (x y : CheckedContent) → IsContentOf content a x
    → IsContentOf content b y
    → ◌≡◌ {A = ContentWithSignature} (record { signature = b; content = y }) (record { signature = a; content = x })
one_content content a b x y is other =
    ok_is _ _ (sym (content-meant content b y other) ∙ content-meant content a x is)

abbrev with_parts : Cert → List Cert → ContentWithSignature → TransparencyLogEntry → Checked
with_parts certificate further content entry = record {
  certificate = certificate;
  further = further;
  signature = content.signature;
  content = content.content;
  entry = entry;
}

rest_is : {A : Type 0} (x y : A) (xs ys : List A) → x ∷ xs ≡ y ∷ ys → xs ≡ ys
rest_is x y xs ys e = cc

of_parts : (c d : Checked) → c.certificate ≡ d.certificate → c.further ≡ d.further
    → ◌≡◌ {A = ContentWithSignature} (record { signature = c.signature; content = c.content })
    (record { signature = d.signature; content = d.content })
    → c.entry ≡ d.entry → c ≡ d
of_parts c d certificate further content entry =
    ap (λ (x : Cert). with_parts x c.further (record { signature = c.signature; content = c.content }) c.entry)
    certificate
    ∙ ap (λ (x : List Cert).
    with_parts d.certificate x (record { signature = c.signature; content = c.content }) c.entry) further
    ∙ ap (λ (x : ContentWithSignature). with_parts d.certificate d.further x c.entry) content
    ∙ ap (λ (x : TransparencyLogEntry).
    with_parts d.certificate d.further (record { signature = d.signature; content = d.content }) x) entry

-- a bundle is checked in one way
pub one_checked : OneCertificate → (b : Bundle) (c o : Checked) → IsPassed b c → IsPassed b o → o ≡ c
one_checked one b c o is other =
    let material : other.material ≡ is.material = some_is other.material is.material
    (sym other.brought ∙ is.brought) in
    let l = is.certificate in
    let m = other.certificate in
    let encodings : m.encodings ≡ l.encodings =
    some_is m.encodings l.encodings
    (sym m.held ∙ ap (λ (x : VerificationMaterial). encodings_in x.content) material ∙ l.held) in
    let read : AreCertificates l.encodings (o.certificate ∷ o.further) =
    subst (λ (ders : List (List ℕ)). AreCertificates ders (o.certificate ∷ o.further)) encodings m.read in
    let certificates : o.certificate ∷ o.further ≡ c.certificate ∷ c.further =
    certificates_one one l.encodings (o.certificate ∷ o.further) (c.certificate ∷ c.further) read l.read in
    of_parts o c (head_is o.certificate c.certificate o.further c.further certificates)
    (rest_is o.certificate c.certificate o.further c.further certificates)
    (one_content b.content c.signature o.signature c.content o.content is.content other.content)
    (head_is o.entry c.entry [] []
    (sym other.logged ∙ ap (λ (x : VerificationMaterial). x.tlog_entries) material ∙ is.logged))

module _ (one : OneCertificate) (passed : (b : Bundle) (c : Checked)
    → IsChecked b (Ok c) ↔ IsPassed b c) (bundles : BundlesAreJudged)
    (k : Checker) (policy : PolicyOf) (trusted : Trusted) (d : ArtifactDigest) (offline : Bool) (b : Bundle)
    (read : (c : Checked) → IsPassed b c → IsReadCertificate c) where
  abbrev Holds : Link → Type 0
  Holds = HoldsOfVerified k policy (trust_of trusted) d offline b

  pub judged_verdict : (result : Answer) → IsVerdict k trusted policy d offline b result
      → Judged Holds (bundle_links ++ certificate_links) (renamed result)
  judged_verdict result (inl refused) =
      let first = bundles.refused b refused.0 refused.1 in
      subst (λ (r : Answer). Judged Holds (bundle_links ++ certificate_links) (renamed r)) (sym refused.2)
      (first.0, first.1, fails_front Holds bundle_links certificate_links first.0 first.2)
  judged_verdict result (inr checked) =
      let c = checked.0 in
      let is : IsPassed b c = (passed b c).0 checked.1 in
      judged_later Holds bundle_links certificate_links (renamed result) (bundles.passed b c checked.1)
      (judged_as (HoldsOfChecked k policy (trust_of trusted) d offline c)
      (OfPassedBundle k policy (trust_of trusted) d offline b) certificate_links (renamed result)
      (alike_each (HoldsOfChecked k policy (trust_of trusted) d offline c)
      (OfPassedBundle k policy (trust_of trusted) d offline b) certificate_links (λ l. (
        (λ holds. (c, is, holds)),
        (λ holds. subst (λ (x : Checked). HoldsOfChecked k policy (trust_of trusted) d offline x l)
            (one_checked one b c holds.0 is holds.1) holds.2),
      )))
      (judged_trusted k policy trusted d offline c (read c is) result checked.2))

  pub verdict_linked : (result : Answer)
      → UnlessMemory OutOfMemory result (IsVerdict k trusted policy d offline b result)
      → UnlessMemory OutOfMemory result (Judged Holds (bundle_links ++ certificate_links) (renamed result))
  verdict_linked result (inl memory) = inl memory
  verdict_linked result (inr is) = inr (judged_verdict result is)

  pub verdict_told : (result : Answer) → IsVerdict k trusted policy d offline b result
      → Tells Holds (bundle_links ++ certificate_links) (renamed result)
  verdict_told result is =
      judged_tells Holds (bundle_links ++ certificate_links) (renamed result) (judged_verdict result is)
