-- Each fault of the checks of trust comes if and only if the checks before it pass and its own does not.
use Rattle.std.proofs.Common.{◌≡◌, ℤ, ◌<ℤ◌, ◌≤ℤ◌, int_lt, Bool, true, false, true≢false, cond, List, [], ◌∷◌, Option}
use Rattle.std.proofs.Common.{Some, None, Ok, Err, refl, sym, ap, subst, ◌∙◌, arith}
use Rattle.std.specs.Prelude.{is_some}
use Rattle.std.proofs.lemmas.Bool.{false_from_ne_true, true_from_ne_false}
use Rattle.std.proofs.lemmas.Int.{ints}
use Rattle.sig_base.proofs.OptionSteps.{some_is}
use Rattle.sig_base.specs.declared.error.SigstoreError.{SigstoreError}
use Rattle.sig_base.specs.declared.error.SigstoreError.TheVariants.{CertificateValidityError}
use Rattle.sig_base.specs.declared.error.SigstoreError.TheVariants.{CertificateExpiredBeforeSignaturesSubmittedToRekor}
use Rattle.sig_base.specs.declared.error.SigstoreError.TheVariants.{CertificateIssuedAfterSignaturesSubmittedToRekor}
use Rattle.sig_base.specs.declared.error.SigstoreError.TheVariants.{CertificateWithoutDigitalSignatureKeyUsage}
use Rattle.sig_base.specs.declared.error.SigstoreError.TheVariants.{CertificateWithoutCodeSigningKeyUsage}
use Rattle.sig_base.specs.declared.error.SigstoreError.TheVariants.{CertificateWithoutSubjectAlternativeName}
use Rattle.sig_der.specs.ObjectIdentifiers as oid
use Rattle.sig_certificate.specs.declared.values.KeyUsage.{KeyUsage as Usage}
use Rattle.sig_certificate.specs.Certificate.{Extension, Cert}
use Rattle.sig_certificate.specs.Lookups.{with_oid}
use Rattle.sig_certificate.specs.Names.{Name, general_names_of}
use Rattle.sig_certificate.specs.Profile.{Held, usage, code_signing}
use Rattle.sig_base.specs.OptionSteps.{or_else}
use Rattle.sig_certificate.specs.Trust.{may_sign, may_sign_code, is_named, usages_refusal, names_refusal}
use Rattle.sig_certificate.specs.Trust.{validity_refusal, expiration_refusal, trust_refusal}
use Rattle.sig_certificate.specs.Faults.{Says, SaysUsage, MaySign, MaySignCode, IsNamed, IsUsagesFault, may_not_sign}
use Rattle.sig_certificate.specs.Faults.{may_not_sign_code, IsNamesFault, unnamed, IsValidityFault, not_begun}
use Rattle.sig_certificate.specs.Faults.{IsExpirationFault, too_early, too_late, IsTrustFault, of_usages, of_names}
use Rattle.sig_certificate.specs.Faults.{of_validity, of_expiration, IsWithinValidity, IsTrusted}
use Rattle.sig_certificate.proofs.ExtensionCountLaws.{named_one}
use Rattle.sig_certificate.proofs.SingleValueLaws.{usage_says, said_usage, purposes_say, said_purposes}

-- ---- key usages

may_sign_is : (c : Cert) (h : Held Usage) → usage c ≡ h → may_sign h ≡ true → MaySign c
may_sign_is c (Err x) is e = absurd cc
may_sign_is c (Ok None) is e = absurd cc
may_sign_is c (Ok (Some u)) is e =
    (u.key_cert_sign, subst (λ (d : Bool). SaysUsage c d u.key_cert_sign) e (usage_says c u is))

may_sign_again : (c : Cert) → MaySign c → may_sign (usage c) ≡ true
may_sign_again c (k, says) = let t = said_usage c true k says in ap (λ (w : Held Usage). may_sign w) t.1.0 ∙ t.1.1.0

may_sign_code_is : (c : Cert) (h : Held Bool) → code_signing c ≡ h → may_sign_code h ≡ true → MaySignCode c
may_sign_code_is c (Err x) is e = absurd cc
may_sign_code_is c (Ok None) is e = absurd cc
may_sign_code_is c (Ok (Some true)) is e = purposes_say c true is
may_sign_code_is c (Ok (Some false)) is e = absurd cc

may_sign_code_again : (c : Cert) → MaySignCode c → may_sign_code (code_signing c) ≡ true
may_sign_code_again c says = ap (λ (w : Held Bool). may_sign_code w) (said_purposes c true says)

pub usages_fault_is : (c : Cert) (e : SigstoreError) → usages_refusal c ≡ Some e → IsUsagesFault c e
usages_fault_is c e is =
    by (may_sign (usage c)) (may_sign_code (code_signing c)) refl refl is
  where
    by : (s k : Bool) → may_sign (usage c) ≡ s → may_sign_code (code_signing c) ≡ k
        → cond s (cond k None (Some CertificateWithoutCodeSigningKeyUsage))
        (Some CertificateWithoutDigitalSignatureKeyUsage) ≡ Some e → IsUsagesFault c e
    by true true a b r = absurd cc
    by true false a b r =
        subst (λ (w : SigstoreError). IsUsagesFault c w) (some_is _ e r)
        (may_not_sign_code (may_sign_is c (usage c) refl a) (λ m. true≢false (sym (may_sign_code_again c m) ∙ b)))
    by false k a b r =
        subst (λ (w : SigstoreError). IsUsagesFault c w) (some_is _ e r)
        (may_not_sign (λ m. true≢false (sym (may_sign_again c m) ∙ a)))

pub usages_none_is : (c : Cert) → usages_refusal c ≡ None → MaySign c × MaySignCode c
usages_none_is c is =
    by (may_sign (usage c)) (may_sign_code (code_signing c)) refl refl is
  where
    by : (s k : Bool) → may_sign (usage c) ≡ s → may_sign_code (code_signing c) ≡ k
        → cond s (cond k None (Some CertificateWithoutCodeSigningKeyUsage))
        (Some CertificateWithoutDigitalSignatureKeyUsage) ≡ None → MaySign c × MaySignCode c
    by true true a b r = (may_sign_is c (usage c) refl a, may_sign_code_is c (code_signing c) refl b)
    by true false a b r = absurd cc
    by false k a b r = absurd cc

usages_are : (c : Cert) (s k : Bool) → may_sign (usage c) ≡ s → may_sign_code (code_signing c) ≡ k
    → usages_refusal c ≡ cond s (cond k None (Some CertificateWithoutCodeSigningKeyUsage))
    (Some CertificateWithoutDigitalSignatureKeyUsage)
usages_are c s k a b = rw (a, b) refl

pub usages_fault_again : (c : Cert) (e : SigstoreError) → IsUsagesFault c e → usages_refusal c ≡ Some e
usages_fault_again c e (may_not_sign not_so) =
    usages_are c false (may_sign_code (code_signing c))
    (false_from_ne_true (may_sign (usage c)) (λ so. not_so (may_sign_is c (usage c) refl so))) refl
usages_fault_again c e (may_not_sign_code so not_so) =
    usages_are c true false (may_sign_again c so)
    (false_from_ne_true (may_sign_code (code_signing c)) (λ is. not_so (may_sign_code_is c (code_signing c) refl is)))

pub usages_none_again : (c : Cert) → MaySign c → MaySignCode c → usages_refusal c ≡ None
usages_none_again c signs code = usages_are c true true (may_sign_again c signs) (may_sign_code_again c code)

-- ---- alternative names

named_is : (es : List Extension) → is_named es ≡ true → Says es general_names_of (λ e names. Unit {0})
named_is [] is = absurd cc
named_is (x ∷ []) is = one (general_names_of x.value) refl is
  where
    one : (o : Option (List Name)) → general_names_of x.value ≡ o → is_some o ≡ true
        → Says (x ∷ []) general_names_of (λ e names. Unit {0})
    one None a r = absurd cc
    one (Some names) a r = (x, (names, (refl, (a, tt))))
named_is (x ∷ y ∷ es) is = absurd cc

named_again : (es : List Extension) → Says es general_names_of (λ e names. Unit {0}) → is_named es ≡ true
named_again es (x, (names, (one, (is, rest)))) = named_one es x one ∙ ap (λ (o : Option (List Name)). is_some o) is

pub names_fault_is : (c : Cert) (e : SigstoreError) → names_refusal c ≡ Some e → IsNamesFault c e
names_fault_is c e is =
    by (is_named (with_oid oid.subject_alternative_name c.extensions)) refl is
  where
    by : (b : Bool) → is_named (with_oid oid.subject_alternative_name c.extensions) ≡ b
        → cond b None (Some CertificateWithoutSubjectAlternativeName) ≡ Some e → IsNamesFault c e
    by true a r = absurd cc
    by false a r =
        subst (λ (w : SigstoreError). IsNamesFault c w) (some_is _ e r)
        (unnamed (λ named. true≢false
        (sym (named_again (with_oid oid.subject_alternative_name c.extensions) named) ∙ a)))

pub names_none_is : (c : Cert) → names_refusal c ≡ None → IsNamed c
names_none_is c is =
    by (is_named (with_oid oid.subject_alternative_name c.extensions)) refl is
  where
    by : (b : Bool) → is_named (with_oid oid.subject_alternative_name c.extensions) ≡ b
        → cond b None (Some CertificateWithoutSubjectAlternativeName) ≡ None → IsNamed c
    by true a r = named_is (with_oid oid.subject_alternative_name c.extensions) a
    by false a r = absurd cc

names_are : (c : Cert) (b : Bool) → is_named (with_oid oid.subject_alternative_name c.extensions) ≡ b
    → names_refusal c ≡ cond b None (Some CertificateWithoutSubjectAlternativeName)
names_are c b is = rw is refl

pub names_fault_again : (c : Cert) (e : SigstoreError) → IsNamesFault c e → names_refusal c ≡ Some e
names_fault_again c e (unnamed not_so) =
    names_are c false (false_from_ne_true (is_named (with_oid oid.subject_alternative_name c.extensions))
    (λ so. not_so (named_is (with_oid oid.subject_alternative_name c.extensions) so)))

pub names_none_again : (c : Cert) → IsNamed c → names_refusal c ≡ None
names_none_again c named = names_are c true (named_again (with_oid oid.subject_alternative_name c.extensions) named)

-- ---- the validity

below : (a b : ℤ) → int_lt a b ≡ true → a <ℤ b
below a b e = omega (arith, ints)

not_below : (a b : ℤ) → int_lt a b ≡ false → b ≤ℤ a
not_below a b e = omega (arith, ints)

lt_is : (a b : ℤ) → a <ℤ b → int_lt a b ≡ true
lt_is a b lt = true_from_ne_false (int_lt a b) (λ e. omega (arith, ints))

le_is : (a b : ℤ) → b ≤ℤ a → int_lt a b ≡ false
le_is a b le = false_from_ne_true (int_lt a b) (λ e. omega (arith, ints))

pub validity_fault_is : (c : Cert) (now : ℤ) (e : SigstoreError) → validity_refusal c now ≡ Some e
    → IsValidityFault c now e
validity_fault_is c now e is = by (int_lt now c.not_before) refl is
  where
    by : (b : Bool) → int_lt now c.not_before ≡ b → cond b (Some (CertificateValidityError c.not_before)) None ≡ Some e
        → IsValidityFault c now e
    by true a r =
        subst (λ (w : SigstoreError). IsValidityFault c now w) (some_is _ e r) (not_begun (below now c.not_before a))
    by false a r = absurd cc

pub validity_none_is : (c : Cert) (now : ℤ) → validity_refusal c now ≡ None → c.not_before ≤ℤ now
validity_none_is c now is = by (int_lt now c.not_before) refl is
  where
    by : (b : Bool) → int_lt now c.not_before ≡ b → cond b (Some (CertificateValidityError c.not_before)) None ≡ None
        → c.not_before ≤ℤ now
    by true a r = absurd cc
    by false a r = not_below now c.not_before a

pub validity_fault_again : (c : Cert) (now : ℤ) (e : SigstoreError) → IsValidityFault c now e
    → validity_refusal c now ≡ Some e
validity_fault_again c now e (not_begun lt) = rw (lt_is now c.not_before lt) refl

pub validity_none_again : (c : Cert) (now : ℤ) → c.not_before ≤ℤ now → validity_refusal c now ≡ None
validity_none_again c now le = rw (le_is now c.not_before le) refl

pub expiration_fault_is : (c : Cert) (at : ℤ) (e : SigstoreError) → expiration_refusal c at ≡ Some e
    → IsExpirationFault c at e
expiration_fault_is c at e is = by (int_lt at c.not_before) (int_lt c.not_after at) refl refl is
  where
    by : (b d : Bool) → int_lt at c.not_before ≡ b → int_lt c.not_after at ≡ d
        → cond b (Some (CertificateExpiredBeforeSignaturesSubmittedToRekor at c.not_before))
        (cond d (Some (CertificateIssuedAfterSignaturesSubmittedToRekor at c.not_after)) None) ≡ Some e
        → IsExpirationFault c at e
    by true d a a2 r =
        subst (λ (w : SigstoreError). IsExpirationFault c at w) (some_is _ e r) (too_early (below at c.not_before a))
    by false true a a2 r =
        subst (λ (w : SigstoreError). IsExpirationFault c at w) (some_is _ e r)
        (too_late (not_below at c.not_before a) (below c.not_after at a2))
    by false false a a2 r = absurd cc

pub expiration_fault_again : (c : Cert) (at : ℤ) (e : SigstoreError) → IsExpirationFault c at e
    → expiration_refusal c at ≡ Some e
expiration_fault_again c at e (too_early lt) = rw (lt_is at c.not_before lt) refl
expiration_fault_again c at e (too_late le lt) = rw (le_is at c.not_before le, lt_is c.not_after at lt) refl

pub expiration_none_is : (c : Cert) (at : ℤ) → expiration_refusal c at ≡ None → IsWithinValidity c at
expiration_none_is c at is = by (int_lt at c.not_before) (int_lt c.not_after at) refl refl is
  where
    by : (b d : Bool) → int_lt at c.not_before ≡ b → int_lt c.not_after at ≡ d
        → cond b (Some (CertificateExpiredBeforeSignaturesSubmittedToRekor at c.not_before))
        (cond d (Some (CertificateIssuedAfterSignaturesSubmittedToRekor at c.not_after)) None) ≡ None
        → IsWithinValidity c at
    by true d a a2 r = absurd cc
    by false true a a2 r = absurd cc
    by false false a a2 r =
        record { begun = not_below at c.not_before a; not_ended = not_below c.not_after at a2 }

pub expiration_none_again : (c : Cert) (at : ℤ) → IsWithinValidity c at → expiration_refusal c at ≡ None
expiration_none_again c at is = rw (le_is at c.not_before is.begun, le_is c.not_after at is.not_ended) refl

-- ---- all four

or_some : {E : Type 0} (o other : Option E) (e : E) → o ≡ Some e → or_else o other ≡ Some e
or_some o other e is = rw is refl

or_none : {E : Type 0} (o other : Option E) → o ≡ None → or_else o other ≡ other
or_none o other is = rw is refl

pub trust_fault_is : (c : Cert) (at now : ℤ) (e : SigstoreError) → trust_refusal c at now ≡ Some e
    → IsTrustFault c at now e
trust_fault_is c at now e is = first (usages_refusal c) refl is
  where
    fourth : MaySign c → MaySignCode c → IsNamed c → c.not_before ≤ℤ now → expiration_refusal c at ≡ Some e
        → IsTrustFault c at now e
    fourth signs code named begun r = of_expiration e signs code named begun (expiration_fault_is c at e r)

    third : MaySign c → MaySignCode c → IsNamed c → (o : Option SigstoreError) → validity_refusal c now ≡ o
        → or_else o (expiration_refusal c at) ≡ Some e → IsTrustFault c at now e
    third signs code named (Some x) v r = of_validity e signs code named (validity_fault_is c now e (v ∙ r))
    third signs code named None v r = fourth signs code named (validity_none_is c now v) r

    second : MaySign c → MaySignCode c → (o : Option SigstoreError) → names_refusal c ≡ o
        → or_else o (or_else (validity_refusal c now) (expiration_refusal c at)) ≡ Some e → IsTrustFault c at now e
    second signs code (Some x) n r = of_names e signs code (names_fault_is c e (n ∙ r))
    second signs code None n r = third signs code (names_none_is c n) (validity_refusal c now) refl r

    first : (o : Option SigstoreError) → usages_refusal c ≡ o
        → or_else o (or_else (names_refusal c) (or_else (validity_refusal c now) (expiration_refusal c at))) ≡ Some e
        → IsTrustFault c at now e
    first (Some x) u r = of_usages e (usages_fault_is c e (u ∙ r))
    first None u r = let both = usages_none_is c u in second both.0 both.1 (names_refusal c) refl r

pub trust_fault_again : (c : Cert) (at now : ℤ) (e : SigstoreError) → IsTrustFault c at now e
    → trust_refusal c at now ≡ Some e
trust_fault_again c at now e (of_usages x fault) = or_some (usages_refusal c) _ e (usages_fault_again c e fault)
trust_fault_again c at now e (of_names x signs code fault) =
    or_none (usages_refusal c) _ (usages_none_again c signs code)
    ∙ or_some (names_refusal c) _ e (names_fault_again c e fault)
trust_fault_again c at now e (of_validity x signs code named fault) =
    or_none (usages_refusal c) _ (usages_none_again c signs code)
    ∙ or_none (names_refusal c) _ (names_none_again c named)
    ∙ or_some (validity_refusal c now) _ e (validity_fault_again c now e fault)
trust_fault_again c at now e (of_expiration x signs code named begun fault) =
    or_none (usages_refusal c) _ (usages_none_again c signs code)
    ∙ or_none (names_refusal c) _ (names_none_again c named)
    ∙ or_none (validity_refusal c now) _ (validity_none_again c now begun) ∙ expiration_fault_again c at e fault

pub trust_is : (c : Cert) (at now : ℤ) → trust_refusal c at now ≡ None → IsTrusted c at now
trust_is c at now is = first (usages_refusal c) refl is
  where
    third : MaySign c → MaySignCode c → IsNamed c → (o : Option SigstoreError) → validity_refusal c now ≡ o
        → or_else o (expiration_refusal c at) ≡ None → IsTrusted c at now
    third signs code named (Some x) v r = absurd cc
    third signs code named None v r = record {
      signs = signs;
      signs_code = code;
      named = named;
      begun = validity_none_is c now v;
      logged = expiration_none_is c at r;
    }

    second : MaySign c → MaySignCode c → (o : Option SigstoreError) → names_refusal c ≡ o
        → or_else o (or_else (validity_refusal c now) (expiration_refusal c at)) ≡ None → IsTrusted c at now
    second signs code (Some x) n r = absurd cc
    second signs code None n r = third signs code (names_none_is c n) (validity_refusal c now) refl r

    first : (o : Option SigstoreError) → usages_refusal c ≡ o
        → or_else o (or_else (names_refusal c) (or_else (validity_refusal c now) (expiration_refusal c at))) ≡ None
        → IsTrusted c at now
    first (Some x) u r = absurd cc
    first None u r = let both = usages_none_is c u in second both.0 both.1 (names_refusal c) refl r

pub trust_again : (c : Cert) (at now : ℤ) → IsTrusted c at now → trust_refusal c at now ≡ None
trust_again c at now is =
    or_none (usages_refusal c) _ (usages_none_again c is.signs is.signs_code)
    ∙ or_none (names_refusal c) _ (names_none_again c is.named)
    ∙ or_none (validity_refusal c now) _ (validity_none_again c now is.begun) ∙ expiration_none_again c at is.logged
