-- When an identity's policy holds, and when each of its refusals comes, in words.
use Rattle.std.proofs.Common.{◌≡◌, ◌≢◌, ℕ, Bool, true, false, ◌&&◌, List, [], ◌∷◌, Option, Some, None, refl}
use Rattle.std.proofs.Common.{sym, ap, subst, ◌∙◌, inl, inr}
use Rattle.std.specs.Prelude.{◌↔◌, codes, option_map}
use Rattle.std.specs.List.{filter_map}
use Rattle.std.proofs.lemmas.Bool.{cases_Bool, cond-true, cond-false, and_parts, and_from}
use Rattle.sig_base.proofs.OptionSteps.{some_is}
use Rattle.sig_certificate.specs.Certificate.{Extension, Cert}
use Rattle.sig_certificate.specs.Lookups.{with_oid}
use Rattle.sig_certificate.specs.Names.{Name, general_names_of}
use Rattle.sig_der.specs.ObjectIdentifiers.{fulcio, subject_alternative_name}
use Rattle.sig_policy.specs.Claim.{Claim}
use Rattle.sig_policy.specs.CertificateWords.{HasText, HasIdentities, HasIdentity, WhyNot, no_issuer, other_issuer}
use Rattle.sig_policy.specs.CertificateWords.{no_names}
use Rattle.sig_policy.specs.CertificateWords.{other_names, refusal_for}
use Rattle.sig_policy.specs.Identities.{identity_of, only_identities, identities, is_among_identities}
use Rattle.sig_policy.specs.Identities.{name_refusal, is_issued_by, identity_holds, identity_refusal}
use Rattle.sig_policy.specs.Refusals.{Refusal, not_found}
use Rattle.sig_policy.specs.Single.{extension_text, is_asked_text, single_refusal}
use Rattle.sig_policy.proofs.SingleLaws.{text_takes, text_again, holds_from, holds_is}

-- ---- the identities of a certificate

named_takes : (o : Option (List Name)) (texts : List (List ℕ))
    → option_map (λ ns. filter_map identity_of ns) o ≡ Some texts
    → (ns : List Name) × ((o ≡ Some ns) × (filter_map identity_of ns ≡ texts))
named_takes None texts e = absurd cc
named_takes (Some ns) texts e = (ns, (refl, some_is (filter_map identity_of ns) texts e))

pub identities_takes : (c : Cert) (texts : List (List ℕ)) → identities c ≡ Some texts → HasIdentities c texts
identities_takes c texts e = by_list (with_oid subject_alternative_name c.extensions) refl e
  where
    by_list : (es : List Extension) → with_oid subject_alternative_name c.extensions ≡ es
        → only_identities es ≡ Some texts → HasIdentities c texts
    by_list [] is f = absurd cc
    by_list (x ∷ []) is f =
        let n = named_takes (general_names_of x.value) texts f in
        record { extension = x; one = is; names = n.0; are = n.1.0; given = n.1.1 }
    by_list (x ∷ y ∷ es) is f = absurd cc

pub identities_again : (c : Cert) (texts : List (List ℕ)) → HasIdentities c texts → identities c ≡ Some texts
identities_again c texts h =
    ap (λ (es : List Extension). only_identities es) h.one
    ∙ ap (λ (o : Option (List Name)). option_map (λ ns. filter_map identity_of ns) o) h.are
    ∙ ap (λ (w : List (List ℕ)). Some w) h.given

-- ---- whether the policy holds

module _ (p : Claim) (c : Cert) where
  abbrev Issuer : Option (List ℕ)
  Issuer = extension_text (fulcio 1) c

  among_takes : (o : Option (List (List ℕ))) → identities c ≡ o → is_among_identities p.identity o ≡ true
      → HasIdentity c p.identity
  among_takes None e is = absurd cc
  among_takes (Some texts) e is = record { texts = texts; are = identities_takes c texts e; named = is }

  issuer_is : HasText (fulcio 1) c p.issuer → is_issued_by p.issuer c ≡ true
  issuer_is h = holds_is (codes "OIDCIssuer") p.issuer Issuer (text_again (fulcio 1) c p.issuer h)

  issuer_from : is_issued_by p.issuer c ≡ true → HasText (fulcio 1) c p.issuer
  issuer_from e = text_takes (fulcio 1) c p.issuer (holds_from (codes "OIDCIssuer") p.issuer Issuer e)

  pub identity_held : (identity_holds p c ≡ true) ↔ (HasText (fulcio 1) c p.issuer × HasIdentity c p.identity)
  identity_held = (
    (λ e. let parts = and_parts (is_issued_by p.issuer c) (is_among_identities p.identity (identities c)) e in
        (issuer_from parts.0, among_takes (identities c) refl parts.1)),
    (λ h. and_from _ _ (issuer_is h.0)
        (ap (λ (o : Option (List (List ℕ))). is_among_identities p.identity o) (identities_again c h.1.texts h.1.are)
        ∙ h.1.named)),
  )

  -- ---- the refusals

  abbrev Refused : Refusal → Type 0
  Refused r = (identity_holds p c ≡ false) × (identity_refusal p c ≡ r)

  -- the issuer is asked first
  by_issuer : (r : Refusal) → is_issued_by p.issuer c ≡ false → single_refusal (codes "OIDCIssuer") p.issuer Issuer ≡ r
      → Refused r
  by_issuer r out says = (
    ap (λ (b : Bool). b && is_among_identities p.identity (identities c)) out,
    cond-false (is_issued_by p.issuer c) _ _ out
        ∙ says,
  )

  by_names : (r : Refusal) → HasText (fulcio 1) c p.issuer → is_among_identities p.identity (identities c) ≡ false
      → name_refusal p.identity (identities c) ≡ r → Refused r
  by_names r issuer out says = (
    ap (λ (b : Bool). b && is_among_identities p.identity (identities c)) (issuer_is issuer) ∙ out,
    cond-true (is_issued_by p.issuer c) _ _ (issuer_is issuer) ∙ says,
  )

  not_issued : (actual : List ℕ) → HasText (fulcio 1) c actual → actual ≢ p.issuer → is_issued_by p.issuer c ≡ false
  not_issued actual h other = by_test (is_issued_by p.issuer c) refl
    where
      by_test : (b : Bool) → is_issued_by p.issuer c ≡ b → is_issued_by p.issuer c ≡ false
      by_test true e =
          absurd (other (some_is actual p.issuer
          (sym (text_again (fulcio 1) c actual h) ∙ text_again (fulcio 1) c p.issuer (issuer_from e))))
      by_test false e = e

  pub caused : (w : WhyNot p c) → Refused (refusal_for p c w)
  caused (no_issuer none) = by_text Issuer refl
    where
      by_text : (o : Option (List ℕ)) → Issuer ≡ o → Refused not_found
      by_text None e =
          by_issuer not_found (ap (λ (o : Option (List ℕ)). is_asked_text p.issuer o) e)
          (ap (λ (o : Option (List ℕ)). single_refusal (codes "OIDCIssuer") p.issuer o) e)
      by_text (Some text) e = absurd (none text (text_takes (fulcio 1) c text e))
  caused (other_issuer actual has other) =
      by_issuer _ (not_issued actual has other)
      (ap (λ (o : Option (List ℕ)). single_refusal (codes "OIDCIssuer") p.issuer o)
      (text_again (fulcio 1) c actual has))
  caused (no_names issuer none) = by_option (identities c) refl
    where
      by_option : (o : Option (List (List ℕ))) → identities c ≡ o → Refused not_found
      by_option None e =
          by_names not_found issuer (ap (λ (o : Option (List (List ℕ))). is_among_identities p.identity o) e)
          (ap (λ (o : Option (List (List ℕ))). name_refusal p.identity o) e)
      by_option (Some texts) e = absurd (none texts (identities_takes c texts e))
  caused (other_names texts issuer has none) =
      let is = identities_again c texts has in
      by_names _ issuer (ap (λ (o : Option (List (List ℕ))). is_among_identities p.identity o) is ∙ none)
      (ap (λ (o : Option (List (List ℕ))). name_refusal p.identity o) is)

  why_names : HasText (fulcio 1) c p.issuer → is_among_identities p.identity (identities c) ≡ false → WhyNot p c
  why_names issuer out = by_option (identities c) refl out
    where
      by_option : (o : Option (List (List ℕ))) → identities c ≡ o → is_among_identities p.identity o ≡ false
          → WhyNot p c
      by_option None e f = no_names issuer (λ texts has. let some = sym (identities_again c texts has) ∙ e in cc)
      by_option (Some texts) e f = other_names texts issuer (identities_takes c texts e) f

  why_issuer : is_issued_by p.issuer c ≡ false → WhyNot p c
  why_issuer out = by_option Issuer refl
    where
      by_option : (o : Option (List ℕ)) → Issuer ≡ o → WhyNot p c
      by_option None e = no_issuer (λ text has. let some = sym (text_again (fulcio 1) c text has) ∙ e in cc)
      by_option (Some actual) e =
          other_issuer actual (text_takes (fulcio 1) c actual e)
          (λ same. let issued = issuer_is
          (subst (λ (t : List ℕ). HasText (fulcio 1) c t) same (text_takes (fulcio 1) c actual e)) in
          let wrong = sym issued ∙ out in cc)

  why : identity_holds p c ≡ false → WhyNot p c
  why fails =
      elim (cases_Bool (is_issued_by p.issuer c)) [
        | inl issued ↦
            why_names (issuer_from issued) (sym (ap (λ (b : Bool). b && is_among_identities p.identity (identities c))
            issued)
            ∙ fails)
        | inr out ↦ why_issuer out
      ]

  pub has_cause : identity_holds p c ≡ false → (w : WhyNot p c) × (identity_refusal p c ≡ refusal_for p c w)
  has_cause fails = let w = why fails in (w, (caused w).1)
