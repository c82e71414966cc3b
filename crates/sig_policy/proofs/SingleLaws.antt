-- The text of an extension in words, and when each result of a policy on it comes.
use Rattle.std.proofs.Common.{◌≡◌, ◌≢◌, ℕ, true, false, List, [], ◌∷◌, Option, Some, None, Ok, Err, refl}
use Rattle.std.proofs.Common.{sym, ap, subst, ◌∙◌, inl, inr}
use Rattle.std.specs.Str.{IsUtf8, is_utf8, bytes_eq}
use Rattle.std.proofs.lemmas.Bool.{cases_Bool, cond-true, cond-false, false_from_ne_true}
use Rattle.std.proofs.lemmas.Str.{IsUtf8-from_is_utf8}
use Rattle.std.proofs.lemmas.Slice.Eq.{bytes_eq-Decides}
use Rattle.sig_base.proofs.OptionSteps.{some_is}
use Rattle.sig_base.specs.Answers.{ComesWhere}
use Rattle.sig_certificate.specs.Certificate.{Extension, Cert}
use Rattle.sig_certificate.specs.Lookups.{with_oid}
use Rattle.sig_policy.specs.CertificateWords.{HasText}
use Rattle.sig_policy.specs.Refusals.{not_found, check_failed}
use Rattle.sig_policy.specs.Single.{only_text, extension_text, is_asked_text, single_refusal}
use Rattle.sig_policy.specs.Texts.{utf8_text}
use Rattle.sig_policy.specs.Verdict.{IsPolicyResult}
use Rattle.sig_policy.specs.declared.failure.PolicyError.TheVariants.{ExtensionNotFound, ExtensionCheckFailed}
use Rattle.sig_policy.specs.declared.failure.PolicyError.TheVariants.{OutOfMemory}
use Rattle.sig_policy.proofs.VerdictLaws.{Answer, comes_ok, comes_err}
use Rattle.sig_policy.proofs.Utf8Laws.{utf8_some}

-- ---- the text

pub utf8_is : (bytes text : List ℕ) → utf8_text bytes ≡ Some text → (bytes ≡ text) × IsUtf8 text
unfolding utf8_text
utf8_is bytes text e =
    elim (cases_Bool (is_utf8 bytes)) [
      | inl is ↦
          let same = some_is bytes text (sym (cond-true (is_utf8 bytes) _ _ is) ∙ e) in
          (same, subst (λ (w : List ℕ). IsUtf8 w) same (IsUtf8-from_is_utf8 bytes is))
      | inr isnt ↦ let no = sym (cond-false (is_utf8 bytes) _ _ isnt) ∙ e in absurd cc
    ]

pub text_takes : (oid : List ℕ) (c : Cert) (text : List ℕ) → extension_text oid c ≡ Some text → HasText oid c text
text_takes oid c text e = by_list (with_oid oid c.extensions) refl e
  where
    by_list : (es : List Extension) → with_oid oid c.extensions ≡ es → only_text es ≡ Some text → HasText oid c text
    by_list [] is f = absurd cc
    by_list (x ∷ []) is f =
        let u = utf8_is x.value text f in record { extension = x; one = is; value = u.0; utf8 = u.1 }
    by_list (x ∷ y ∷ es) is f = absurd cc

pub text_again : (oid : List ℕ) (c : Cert) (text : List ℕ) → HasText oid c text → extension_text oid c ≡ Some text
text_again oid c text h =
    ap (λ (es : List Extension). only_text es) h.one ∙ ap (λ (w : List ℕ). utf8_text w) h.value ∙ utf8_some text h.utf8

-- ---- the policy

module _ (name asked : List ℕ) where
  pub holds_from : (x : Option (List ℕ)) → is_asked_text asked x ≡ true → x ≡ Some asked
  holds_from None e = absurd cc
  holds_from (Some actual) e = ap (λ (w : List ℕ). Some w) ((bytes_eq-Decides actual asked).0 e)

  pub holds_is : (x : Option (List ℕ)) → x ≡ Some asked → is_asked_text asked x ≡ true
  holds_is x e = ap (λ (y : Option (List ℕ)). is_asked_text asked y) e ∙ (bytes_eq-Decides asked asked).1 refl

  missing_from : (x : Option (List ℕ)) → single_refusal name asked x ≡ not_found → x ≡ None
  missing_from None e = refl
  missing_from (Some actual) e = absurd cc

  missing_is : (x : Option (List ℕ)) → x ≡ None → (is_asked_text asked x ≡ false) ×
      (single_refusal name asked x ≡ not_found)
  missing_is x e = (
    ap (λ (y : Option (List ℕ)). is_asked_text asked y) e,
    ap
        (λ (y : Option (List ℕ)). single_refusal name asked y) e,
  )

  differs_from : (x : Option (List ℕ)) (actual : List ℕ) → is_asked_text asked x ≡ false
      → single_refusal name asked x ≡ check_failed name asked actual
      → (x ≡ Some actual) × (actual ≢ asked)
  differs_from None actual fails e = absurd cc
  differs_from (Some found) actual fails e =
      let same : found ≡ actual = cc in (
        ap (λ (w : List ℕ). Some w) same,
        (λ is. let yes = (bytes_eq-Decides found asked).1 (same ∙ is) in let wrong = sym yes ∙ fails in cc),
      )

  differs_is : (x : Option (List ℕ)) (actual : List ℕ) → x ≡ Some actual → actual ≢ asked
      → (is_asked_text asked x ≡ false) × (single_refusal name asked x ≡ check_failed name asked actual)
  differs_is x actual e other = (
    ap (λ (y : Option (List ℕ)). is_asked_text asked y) e
        ∙ false_from_ne_true (bytes_eq actual asked) (λ is. other ((bytes_eq-Decides actual asked).0 is)),
    ap (λ (y : Option (List ℕ)). single_refusal name asked y) e,
  )

module _ (name asked oid : List ℕ) (c : Cert) (r : Answer)
    (is : IsPolicyResult (is_asked_text asked (extension_text oid c))
    (single_refusal name asked (extension_text oid c)) r)
  where
    abbrev Text : Option (List ℕ)
    Text = extension_text oid c

    pub single_accepted : ComesWhere OutOfMemory r (Ok tt) (HasText oid c asked)
    single_accepted =
        comes_ok _ _ r _ is (λ e. text_takes oid c asked (holds_from name asked Text e))
        (λ h. holds_is name asked Text (text_again oid c asked h))

    pub single_missing : ComesWhere OutOfMemory r (Err ExtensionNotFound) ((text : List ℕ) → ¬ HasText oid c text)
    single_missing =
        comes_err _ _ not_found r ExtensionNotFound _ refl (λ d same. same) is
        (λ fails e text h. let none = missing_from name asked Text e in
        let wrong = sym none ∙ text_again oid c text h in
        cc)
        (λ none. missing_is name asked Text (by_text Text refl none))
      where
        by_text : (x : Option (List ℕ)) → Text ≡ x → ((text : List ℕ) → ¬ HasText oid c text) → Text ≡ None
        by_text None e none = e
        by_text (Some text) e none = absurd (none text (text_takes oid c text e))

    pub single_differs : (actual : List ℕ)
        → ComesWhere OutOfMemory r (Err (ExtensionCheckFailed name asked actual))
        (HasText oid c actual × (actual ≢ asked))
    single_differs actual =
        comes_err _ _ (check_failed name asked actual) r (ExtensionCheckFailed name asked actual) _
        refl (λ d same. same)
        is
        (λ fails e. let d = differs_from name asked Text actual fails e in (text_takes oid c actual d.0, d.1))
        (λ h. differs_is name asked Text actual (text_again oid c actual h.0) h.1)
