-- What each call says of the list.
use Rattle.std.proofs.Common.{◌≡◌, ◌↔◌, ◌⊎◌, ℕ, List, Result, Ok, Err, IfOk, OnOk, inl, inr, refl, sym}
use Rattle.std.proofs.Common.{subst, ◌∙◌}
use Rattle.std.specs.Prelude.{Contains}
use Rattle.sig_base.proofs.ResultSteps.{err_is}
use Rattle.sig_base.specs.Answers.{ComesWhere, UnlessMemory}
use Rattle.sig_base.specs.declared.checker.AcceptedRow.{AcceptedRow}
use Rattle.sig_bundle.specs.BundleRecord.{bundle_in}
use Rattle.sig_bundle.specs.declared.bundle.Bundle.{Bundle}
use Rattle.sig_checked_bundle.specs.Checked.{Checked, IsChecked}
use Rattle.sig_checked_bundle.specs.Passed.{IsPassed}
use Rattle.sig_checked_bundle.specs.declared.bundle_error.BundleErrorKind.{BundleErrorKind}
use Rattle.sig_checked_bundle.specs.declared.bundle_error.BundleErrorKind.TheVariants as bundle
use Rattle.sig_dsse.specs.declared.artifact_digest.ArtifactDigest.{ArtifactDigest}
use Rattle.sig_json.specs.declared.error.JsonError.{JsonError}
use Rattle.sig_json.specs.declared.error.JsonError.TheVariants as json
use Rattle.sig_root.specs.RootRecord.{trusted_root_in}
use Rattle.sig_root.specs.declared.record.TrustedRoot.{TrustedRoot}
use Rattle.sig_verify.specs.EntryLinks.{IsOfBytes}
use Rattle.sig_verify.specs.LinkLaws.{IsReadCertificate}
use Rattle.sig_verify.specs.Links.{Inputs}
use Rattle.sig_verify.specs.declared.link.Link.TheVariants.{BundleJson}
use Rattle.sig_questions.proofs.QuestionCounts.{questions_few}
use Rattle.sig_questions.proofs.SufficientLists.{rows_suffice}
use Rattle.sig_questions.specs.Asked.{IsAskedBy}
use Rattle.sig_questions.specs.Few.{AreFewQuestions}
use Rattle.sig_questions.specs.Front.{unread}
use Rattle.sig_questions.specs.Listed.{AreListed, AreListedUnder, IsAnswered, Listing, ReadIfOk, trust_in}
use Rattle.sig_questions.specs.Order.{AreInOrder, IsAskedAt}
use Rattle.sig_questions.specs.Questions.{AreQuestions, IsDecided, QuestionsSuffice, Suffices}
use Rattle.sig_questions.specs.declared.listing.NoQuestions.{NoQuestions}
use Rattle.sig_questions.specs.declared.listing.NoQuestions.TheVariants.{OutOfMemory}
use Rattle.sig_questions.specs.declared.trust.TrustParts.{TrustParts}

read_of : (parts : TrustParts) (c : Checked) (result : Listing) → OnOk result (IsReadCertificate c)
    → OnOk result (IsOfBytes parts.log_keys c.entry) → ReadIfOk parts c result
read_of parts c (Ok rows) read bytes = (read, bytes)
read_of parts c (Err error) read bytes = tt

-- a bundle that passes its own checks is not a bundle that does not
pub passed_refused : (b : Bundle) (error : BundleErrorKind) → ((c : Checked)
    → ComesWhere {X = Checked} bundle.OutOfMemory (Err error) (Ok c) (IsPassed b c)) → (c : Checked) × IsPassed b c
    → error ≡ bundle.OutOfMemory
passed_refused b error comes (c, passed) = elim ((comes c).1 passed) [
  | inl memory ↦ err_is error bundle.OutOfMemory memory
  | inr wrong ↦ absurd (let apart : ◌≡◌ {A = Result Checked BundleErrorKind} (Err error) (Ok c) = wrong in cc)
]

-- of a bundle that was checked
pub checked_listed : ((b : Bundle) (c : Checked) → IsChecked b (Ok c) ↔ IsPassed b c) → (d : ArtifactDigest)
    (b : Bundle) (most : ℕ) (parts : TrustParts) (c : Checked) (result : Listing)
    → (◌≡◌ {A = Result Checked BundleErrorKind} (Ok c) (Err bundle.OutOfMemory)) ⊎ IsChecked b (Ok c)
    → AreListed d (trust_in parts) parts.log_keys c most result → OnOk result (IsReadCertificate c)
    → OnOk result (IsOfBytes parts.log_keys c.entry)
    → UnlessMemory OutOfMemory result (AreListedUnder parts d b most result)
checked_listed law d b most parts c result (inl memory) listed read bytes = absurd cc
checked_listed law d b most parts c result (inr checked) listed read bytes = inr (λ root now gives. record {
  parts = parts;
  gives = gives;
  checked = c;
  passed = (law b c).0 checked;
  listed = listed;
  read = read_of parts c result read bytes;
})

-- ---- all of it

pub nothing_told : (i : Inputs) (most : ℕ) (result : Listing) → result ≡ Err OutOfMemory → IsAnswered i most result
nothing_told i most result memory = record {
  asked = λ rows same. absurd (let wrong : ◌≡◌ {A = Listing} (Ok rows) (Err OutOfMemory) = sym same ∙ memory in cc);
  ordered = λ rows same. absurd (let wrong : ◌≡◌ {A = Listing} (Ok rows) (Err OutOfMemory) = sym same ∙ memory in cc);
  decided = subst (λ (r : Listing). IsDecided i most r) (sym memory) tt;
}

if_ok : (result : Listing) (P : List AcceptedRow → Type 0) → ((rows : List AcceptedRow) → result ≡ Ok rows → P rows)
    → IfOk result P
if_ok (Ok rows) P each = each rows refl
if_ok (Err error) P each = tt

few_of : (i : Inputs) (most : ℕ) (result : Listing) → IsDecided i most result → IfOk result (AreFewQuestions i)
few_of i most (Ok rows) decided = questions_few i rows decided.1
few_of i most (Err error) decided = tt

order_of : (i : Inputs) (most : ℕ) (result : Listing) → IsDecided i most result → IfOk result (AreQuestions i)
order_of i most (Ok rows) decided = decided.1
order_of i most (Err error) decided = tt

module _ (i : Inputs) (most : ℕ) (result : Listing) (told : IsAnswered i most result) where
  pub told_asked : IfOk result (λ rows. (row : AcceptedRow) → Contains rows row ↔ IsAskedBy i row)
  told_asked = if_ok result (λ rows. (row : AcceptedRow) → Contains rows row ↔ IsAskedBy i row) told.asked

  pub told_suffice : QuestionsSuffice → IfOk result (λ rows. Suffices (Contains rows) i)
  told_suffice law = if_ok result (λ rows. Suffices (Contains rows) i)
      (λ rows same. rows_suffice law i (Contains rows) (λ row asks. (told.asked rows same row).1 asks))

  pub told_order : IfOk result (AreQuestions i)
  told_order = order_of i most result told.decided

  pub told_few : IfOk result (AreFewQuestions i)
  told_few = few_of i most result told.decided

  pub told_places : IfOk result (AreInOrder (IsAskedAt i))
  told_places = if_ok result (AreInOrder (IsAskedAt i)) told.ordered

-- no questions
pub none_told : (i : Inputs) (most : ℕ) (e : NoQuestions) → IsDecided i most (Err e) → IsAnswered i most (Err e)
none_told i most e decided = record {
  asked = λ rows same. absurd (let wrong : ◌≡◌ {A = Listing} (Err e) (Ok rows) = same in cc);
  ordered = λ rows same. absurd (let wrong : ◌≡◌ {A = Listing} (Err e) (Ok rows) = same in cc);
  decided = decided;
}

-- a text of a bundle that was not read
pub bundle_unread : (i : Inputs) (most : ℕ) (root : TrustedRoot) (error : JsonError) → trusted_root_in i.root ≡ Ok root
    → (error ≡ json.OutOfMemory) ⊎ (bundle_in i.bundle ≡ Err error)
    → IsDecided i most (Err (unread BundleJson error))
bundle_unread i most root json.OutOfMemory root_is why = tt
bundle_unread i most root error root_is (inl memory) = absurd cc
bundle_unread i most root error root_is (inr is) = inr (
  (root, root_is, tt),
  inl (
    (λ of. let wrong : ◌≡◌ {A = Result Bundle JsonError} (Err error) (Ok of.0) = sym is ∙ of.1 in cc),
    refl,
  ),
)
