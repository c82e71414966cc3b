-- The checks of a bundle in order: what each that fails makes of it, and what comes after those that do not.
use Rattle.std.proofs.Common.{◌≡◌, ◌⊎◌, inl, inr, Option, Some, Result, Ok, Err, refl, sym, ap, subst, ◌∙◌}
use Rattle.sig_base.specs.Answers.{Answers, OrMemory, UnlessMemory}
use Rattle.sig_base.specs.ResultSteps.{◌>>=◌}
use Rattle.sig_bundle.specs.AnswersOnly.{AnswersOnly}
use Rattle.sig_checked_bundle.specs.Checked.{Checked, checked, IsChecked, IsCheckedWith}
use Rattle.sig_checked_bundle.specs.Content.{ContentWithSignature, content_with_signature}
use Rattle.sig_checked_bundle.specs.Profile.{entry_among, meets_profile}
use Rattle.sig_checked_bundle.specs.SigningCertificate.{IsSigningCertificate}
use Rattle.sig_bundle.specs.declared.bundle.Bundle.{Bundle}
use Rattle.sig_checked_bundle.specs.declared.bundle_error.BundleErrorKind.{BundleErrorKind}
use Rattle.sig_checked_bundle.specs.declared.bundle_error.BundleErrorKind.TheVariants.{OutOfMemory}
use Rattle.sig_checked_bundle.specs.declared.signing_certificate.SigningChain.{SigningChain}
use Rattle.sig_bundle.specs.declared.material.TransparencyLogEntry.{TransparencyLogEntry}
use Rattle.sig_bundle.specs.declared.material.VerificationMaterial.{VerificationMaterial}

abbrev made : SigningChain → ContentWithSignature → TransparencyLogEntry → Checked
made c content entry = record {
  certificate = c.certificate;
  further = c.further;
  signature = content.signature;
  content = content.content;
  entry = entry;
}

-- the answer is the one that is meant, unless memory ran out
answered : (r m : Result Checked BundleErrorKind) → Answers OutOfMemory (λ x. x) r m → (r ≡ Err OutOfMemory) ⊎ (r ≡ m)
answered (Ok x) m e = inr (sym e)
answered (Err e) m (inl is) =
    inl (let P : BundleErrorKind → Type 0 = λ k. ◌≡◌ {A = Result Checked BundleErrorKind} (Err k) (Err OutOfMemory) in
    subst P (sym is) refl)
answered (Err e) m (inr is) = inr (sym is)

goes_meant : (b : Bundle) → (m : VerificationMaterial) → (c : SigningChain) → (r : Result Checked BundleErrorKind)
    → UnlessMemory OutOfMemory (Ok c) (IsSigningCertificate m.content (Ok c))
    → Answers OutOfMemory (λ x. x) r (checked b m (Ok c))
    → UnlessMemory OutOfMemory r (IsCheckedWith b (Some m) r)
goes_meant b m c r (inl is) answers = absurd cc
goes_meant b m c r (inr signer) answers =
    elim (answered r (checked b m (Ok c)) answers) [ inl e ↦ inl e | inr e ↦ inr (Ok c, signer, e) ]

-- what is meant under the same certificates is meant
joined : (b : Bundle) → (m : VerificationMaterial) → (signer one : Result SigningChain BundleErrorKind)
    → (r other : Result Checked BundleErrorKind)
    → one ≡ signer → r ≡ checked b m one → other ≡ checked b m signer → r ≡ other
joined b m signer one r other same e of =
    let P : Result SigningChain BundleErrorKind → Type 0 = λ s. other ≡ checked b m s in
    let Q : Result Checked BundleErrorKind → Type 0 = λ a. r ≡ a in
    subst Q (sym (subst P (sym same) of)) e

goes_on : (b : Bundle) → (m : VerificationMaterial) → (c : SigningChain) → (signer : Result SigningChain BundleErrorKind)
    → (r other : Result Checked BundleErrorKind)
    → (Ok c ≡ Err OutOfMemory) ⊎ (Ok c ≡ signer) → (r ≡ Err OutOfMemory) ⊎ (r ≡ checked b m (Ok c))
    → other ≡ checked b m signer
    → (r ≡ Err OutOfMemory) ⊎ (r ≡ other)
goes_on b m c signer r other (inl is) answers of = absurd cc
goes_on b m c signer r other (inr same) (inl e) of = inl e
goes_on b m c signer r other (inr same) (inr e) of = inr (joined b m signer (Ok c) r other same e of)

-- the answer after that of the certificates
pub goes : (b : Bundle) → (m : VerificationMaterial) → (c : SigningChain) → (r : Result Checked BundleErrorKind)
    → AnswersOnly OutOfMemory (IsSigningCertificate m.content) (Ok c)
    → Answers OutOfMemory (λ x. x) r (checked b m (Ok c))
    → AnswersOnly OutOfMemory (IsCheckedWith b (Some m)) r
goes b m c r signer answers = (
  goes_meant b m c r signer.0 answers,
  λ other of. goes_on b m c of.0 r other (signer.1 of.0 of.1) (answered r (checked b m (Ok c)) answers) of.2,
)

-- ---- the checks in order

module _ (b : Bundle) (m : VerificationMaterial) (there : b.verification_material ≡ Some m) where
  abbrev Told : Result Checked BundleErrorKind → Type 0
  Told r = AnswersOnly OutOfMemory (IsChecked b) r

  with_material : (r : Result Checked BundleErrorKind) → AnswersOnly OutOfMemory (IsCheckedWith b (Some m)) r → Told r
  with_material r checks =
      subst (λ (o : Option VerificationMaterial). AnswersOnly OutOfMemory (IsCheckedWith b o) r) (sym there) checks

  module _ (c : SigningChain) (signer : AnswersOnly OutOfMemory (IsSigningCertificate m.content) (Ok c)) where
    told : (r : Result Checked BundleErrorKind) → Answers OutOfMemory (λ x. x) r (checked b m (Ok c)) → Told r
    told r answers = with_material r (goes b m c r signer answers)

    -- what comes after the content, and after the entry
    abbrev after_entry : ContentWithSignature → TransparencyLogEntry → Result Checked BundleErrorKind
    after_entry content entry = meets_profile b.media_type entry >>= λ _. Ok (made c content entry)

    abbrev after_content : ContentWithSignature → Result Checked BundleErrorKind
    after_content content = entry_among m.tlog_entries >>= after_entry content

    pub content_failed : (e : BundleErrorKind) → OrMemory OutOfMemory e (content_with_signature b.content ≡ Err e)
        → Told (Err e)
    content_failed e (inl memory) = told (Err e) (inl memory)
    content_failed e (inr is) =
        told (Err e) (inr (ap (λ (r : Result ContentWithSignature BundleErrorKind). r >>= after_content) is))

    module _ (content : ContentWithSignature) (is_content : content_with_signature b.content ≡ Ok content) where
      by_content : (r : Result Checked BundleErrorKind) → after_content content ≡ r → checked b m (Ok c) ≡ r
      by_content r is =
          ap (λ (x : Result ContentWithSignature BundleErrorKind). x >>= after_content) is_content ∙ is

      pub entry_failed : (e : BundleErrorKind) → entry_among m.tlog_entries ≡ Err e → Told (Err e)
      entry_failed e is =
          told (Err e) (inr (by_content (Err e)
          (ap (λ (x : Result TransparencyLogEntry BundleErrorKind). x >>= after_entry content) is)))

      module _ (entry : TransparencyLogEntry) (is_entry : entry_among m.tlog_entries ≡ Ok entry) where
        by_entry : (r : Result Checked BundleErrorKind) → after_entry content entry ≡ r → checked b m (Ok c) ≡ r
        by_entry r is =
            by_content r
            (ap (λ (x : Result TransparencyLogEntry BundleErrorKind). x >>= after_entry content) is_entry ∙ is)

        after_profile : (test : Result (Unit {0}) BundleErrorKind) (r : Result (Unit {0}) BundleErrorKind) → test ≡ r
            → (test >>= λ _. Ok (made c content entry)) ≡ (r >>= λ _. Ok (made c content entry))
        after_profile test r is =
            ap (λ (x : Result (Unit {0}) BundleErrorKind). x >>= λ _. Ok (made c content entry)) is

        pub profile_failed : (e : BundleErrorKind)
            → OrMemory OutOfMemory e (meets_profile b.media_type entry ≡ Err e) → Told (Err e)
        profile_failed e (inl memory) = told (Err e) (inl memory)
        profile_failed e (inr is) =
            told (Err e) (inr (by_entry (Err e) (after_profile (meets_profile b.media_type entry) (Err e) is)))

        -- there is no memory for the entry
        pub no_memory : Told (Err OutOfMemory)
        no_memory = told (Err OutOfMemory) (inl refl)

        pub all_checked : meets_profile b.media_type entry ≡ Ok tt → (copied : TransparencyLogEntry) → copied ≡ entry
            → Told (Ok (made c content copied))
        all_checked met copied same =
            subst (λ (x : TransparencyLogEntry). Told (Ok (made c content x))) (sym same)
            (told (Ok (made c content entry))
            (by_entry (Ok (made c content entry)) (after_profile (meets_profile b.media_type entry) (Ok tt) met)))
