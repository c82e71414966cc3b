-- *Supported key*: which key an SPKI gives, and when each error comes, by its algorithm, its parameters and its curve.
use Rattle.std.proofs.Common.{◌≡◌, ◌≢◌, ℕ, Bool, true, false, cond, List, Option, Some, None, Result, Ok, Err, IfOk, refl}
use Rattle.std.proofs.Common.{sym, ap, subst, ◌∙◌, inl, inr}
use Rattle.std.specs.Str.{bytes_eq}
use Rattle.std.specs.Prelude.{◌==◌}
use Rattle.std.proofs.lemmas.Bool.{eqb-true}
use Rattle.std.proofs.lemmas.Slice.Eq.{bytes_eq-Decides}
use Rattle.sig_base.proofs.ResultRuleLaws.{error_where}
use Rattle.sig_base.proofs.OptionSteps.{some_is}
use Rattle.sig_base.specs.Answers.{Answers, ComesWhere}
use Rattle.sig_base.specs.declared.error.SigstoreError.{SigstoreError}
use Rattle.sig_base.specs.declared.error.SigstoreError.TheVariants.{KeyParsingError, OutOfMemory}
use Rattle.sig_base.specs.declared.error.SigstoreError.TheVariants.{PublicKeyUnsupportedAlgorithmError}
use Rattle.sig_base.specs.declared.scheme.VerifyScheme.{VerifyScheme}
use Rattle.sig_base.specs.declared.scheme.VerifyScheme.TheVariants as scheme
use Rattle.sig_der.specs.KeyInfo.{Algorithm}
use Rattle.sig_der.specs.ObjectIdentifiers.{ec_public_key, p256, p384, p521, rsa, ed25519}
use Rattle.sig_der.specs.Reading.{Piece}
use Rattle.sig_der.specs.Tag.{OBJECT_IDENTIFIER}
use Rattle.sig_key.specs.declared.kind.KeyKind.{KeyKind}
use Rattle.sig_key.specs.declared.kind.KeyKind.TheVariants.{NoKeyInfo, Unsupported, Scheme}
use Rattle.sig_key.specs.declared.verification_key.CosignVerificationKey.{CosignVerificationKey}
use Rattle.sig_key.specs.Key.{key_scheme, key_info}
use Rattle.sig_key.specs.Kind.{curve_scheme, parameters_scheme, scheme_by, algorithm_scheme, IsKind, key_parts, kind_answer}
use Rattle.sig_key.specs.Spki.{IsOnCurve, IsAlgorithmFor, IsOther, IsKeyOf, IsUnsupported, IsNoKeyInfo}

-- ---- the scheme of an algorithm

same_bytes : (a b : List ℕ) → bytes_eq a b ≡ true → a ≡ b
same_bytes a b e = (bytes_eq-Decides a b).0 e

curve_takes : (a : Algorithm) → a.oid ≡ ec_public_key → (p : Piece) → a.parameters ≡ Some p
    → p.tag ≡ OBJECT_IDENTIFIER → (s : VerifyScheme) → curve_scheme p.content ≡ Some s → IsAlgorithmFor s a
curve_takes a elliptic p there identifier s =
    by_tests (bytes_eq p.content p256) (bytes_eq p.content p384) (bytes_eq p.content p521) refl refl refl
  where
    on : (curve : List ℕ) → bytes_eq p.content curve ≡ true → IsOnCurve curve a
    on curve e =
        record {
          parameters = p;
          elliptic = elliptic;
          there = there;
          identifier = identifier;
          named = same_bytes p.content curve e;
        }

    by_tests : (x y z : Bool) → bytes_eq p.content p256 ≡ x → bytes_eq p.content p384 ≡ y → bytes_eq p.content p521 ≡ z
        → cond x (Some scheme.ECDSA_P256_SHA256_ASN1)
        (cond y (Some scheme.ECDSA_P384_SHA384_ASN1) (cond z (Some scheme.ECDSA_P521_SHA512_ASN1) None))
        ≡ Some s → IsAlgorithmFor s a
    by_tests true y z is _ _ e = subst (λ (t : VerifyScheme). IsAlgorithmFor t a) (some_is _ _ e) (on p256 is)
    by_tests false true z _ is _ e = subst (λ (t : VerifyScheme). IsAlgorithmFor t a) (some_is _ _ e) (on p384 is)
    by_tests false false true _ _ is e = subst (λ (t : VerifyScheme). IsAlgorithmFor t a) (some_is _ _ e) (on p521 is)
    by_tests false false false _ _ _ e = absurd cc

parameters_takes : (a : Algorithm) → a.oid ≡ ec_public_key → (s : VerifyScheme)
    → parameters_scheme a.parameters ≡ Some s → IsAlgorithmFor s a
parameters_takes a elliptic s = by_parameters a.parameters refl
  where
    by_parameters : (o : Option Piece) → a.parameters ≡ o → parameters_scheme o ≡ Some s → IsAlgorithmFor s a
    by_parameters None is e = absurd cc
    by_parameters (Some p) is e = by_tag (p.tag == OBJECT_IDENTIFIER) refl e
      where
        by_tag : (t : Bool) → (p.tag == OBJECT_IDENTIFIER) ≡ t → cond t (curve_scheme p.content) None ≡ Some s
            → IsAlgorithmFor s a
        by_tag true tag found = curve_takes a elliptic p is (eqb-true p.tag OBJECT_IDENTIFIER tag) s found
        by_tag false tag found = absurd cc

scheme_takes : (a : Algorithm) (s : VerifyScheme) → algorithm_scheme a ≡ Some s → IsAlgorithmFor s a
scheme_takes a s =
    by_tests (bytes_eq a.oid ec_public_key) (bytes_eq a.oid rsa) (bytes_eq a.oid ed25519) refl refl refl
  where
    by_tests : (x y z : Bool) → bytes_eq a.oid ec_public_key ≡ x → bytes_eq a.oid rsa ≡ y → bytes_eq a.oid ed25519 ≡ z
        → cond x (parameters_scheme a.parameters)
        (cond y (Some scheme.RSA_PKCS1_SHA256) (cond z (Some scheme.ED25519) None))
        ≡ Some s → IsAlgorithmFor s a
    by_tests true y z is _ _ e = parameters_takes a (same_bytes a.oid ec_public_key is) s e
    by_tests false true z _ is _ e =
        subst (λ (t : VerifyScheme). IsAlgorithmFor t a) (some_is _ _ e) (same_bytes a.oid rsa is)
    by_tests false false true _ _ is e =
        subst (λ (t : VerifyScheme). IsAlgorithmFor t a) (some_is _ _ e) (same_bytes a.oid ed25519 is)
    by_tests false false false _ _ _ e = absurd cc

curve_again : (a : Algorithm) (curve : List ℕ) → IsOnCurve curve a → algorithm_scheme a ≡ curve_scheme curve
curve_again a curve is = rw (is.elliptic, is.there, is.identifier, is.named) refl

scheme_again : (a : Algorithm) (s : VerifyScheme) → IsAlgorithmFor s a → algorithm_scheme a ≡ Some s
scheme_again a scheme.ECDSA_P256_SHA256_ASN1 is = curve_again a p256 is
scheme_again a scheme.ECDSA_P384_SHA384_ASN1 is = curve_again a p384 is
scheme_again a scheme.ECDSA_P521_SHA512_ASN1 is = curve_again a p521 is
scheme_again a scheme.RSA_PKCS1_SHA256 is = rw is refl
scheme_again a scheme.RSA_PSS_SHA256 is = absurd is
scheme_again a scheme.ED25519 is = rw is refl

other_takes : (a : Algorithm) → algorithm_scheme a ≡ None → IsOther a
other_takes a none =
    record {
      not_rsa = λ is. let some = sym (scheme_again a scheme.RSA_PKCS1_SHA256 is) ∙ none in cc;
      not_ed25519 = λ is. let some = sym (scheme_again a scheme.ED25519 is) ∙ none in cc;
      not_p256 = λ is. let some = sym (curve_again a p256 is) ∙ none in cc;
      not_p384 = λ is. let some = sym (curve_again a p384 is) ∙ none in cc;
      not_p521 = λ is. let some = sym (curve_again a p521 is) ∙ none in cc;
    }

of_no_scheme : (a : Algorithm) → IsOther a → (s : VerifyScheme) → ¬ IsAlgorithmFor s a
of_no_scheme a other scheme.ECDSA_P256_SHA256_ASN1 is = other.not_p256 is
of_no_scheme a other scheme.ECDSA_P384_SHA384_ASN1 is = other.not_p384 is
of_no_scheme a other scheme.ECDSA_P521_SHA512_ASN1 is = other.not_p521 is
of_no_scheme a other scheme.RSA_PKCS1_SHA256 is = other.not_rsa is
of_no_scheme a other scheme.RSA_PSS_SHA256 is = is
of_no_scheme a other scheme.ED25519 is = other.not_ed25519 is

other_again : (a : Algorithm) → IsOther a → algorithm_scheme a ≡ None
other_again a other = by_scheme (algorithm_scheme a) refl
  where
    by_scheme : (o : Option VerifyScheme) → algorithm_scheme a ≡ o → algorithm_scheme a ≡ None
    by_scheme None e = e
    by_scheme (Some s) e = absurd (of_no_scheme a other s (scheme_takes a s e))

-- ---- the kind of an SPKI

key_takes : (spki : List ℕ) (s : VerifyScheme) → IsKind spki (Scheme s) → IsKeyOf spki s
key_takes spki s h =
    record { info = h.info; is = h.is; whole = h.whole; algorithm = scheme_takes h.info.algorithm s h.kind }

key_again : (spki : List ℕ) (s : VerifyScheme) → IsKeyOf spki s → IsKind spki (Scheme s)
key_again spki s h =
    record { info = h.info; is = h.is; whole = h.whole; kind = scheme_again h.info.algorithm s h.algorithm }

unsupported_takes : (spki : List ℕ) → IsKind spki Unsupported → IsUnsupported spki
unsupported_takes spki h =
    record { info = h.info; is = h.is; whole = h.whole; other = other_takes h.info.algorithm h.kind }

unsupported_again : (spki : List ℕ) → IsUnsupported spki → IsKind spki Unsupported
unsupported_again spki h =
    record { info = h.info; is = h.is; whole = h.whole; kind = other_again h.info.algorithm h.other }

-- ---- the result

abbrev Meant : Type 0
Meant = Result (VerifyScheme × List ℕ) SigstoreError

no_info_from : (spki : List ℕ) (kind : KeyKind) → kind_answer spki kind ≡ Err KeyParsingError → kind ≡ NoKeyInfo
no_info_from spki NoKeyInfo e = refl
no_info_from spki Unsupported e = absurd cc
no_info_from spki (Scheme s) e = absurd cc

unsupported_from : (spki : List ℕ) (kind : KeyKind)
    → kind_answer spki kind ≡ Err PublicKeyUnsupportedAlgorithmError → kind ≡ Unsupported
unsupported_from spki NoKeyInfo e = absurd cc
unsupported_from spki Unsupported e = refl
unsupported_from spki (Scheme s) e = absurd cc

scheme_from : (spki : List ℕ) (kind : KeyKind) (key : VerifyScheme × List ℕ) → kind_answer spki kind ≡ Ok key
    → (kind ≡ Scheme key.0) × (key.1 ≡ spki)
scheme_from spki NoKeyInfo key e = absurd cc
scheme_from spki Unsupported key e = absurd cc
scheme_from spki (Scheme s) key e =
    let same : (s, spki) ≡ key = cc in
    (ap (λ (k : VerifyScheme × List ℕ). Scheme k.0) same, sym (ap (λ (k : VerifyScheme × List ℕ). k.1) same))

module _ (spki : List ℕ) (kind : KeyKind) (r : Result CosignVerificationKey SigstoreError)
    (answer : Answers OutOfMemory key_parts r (kind_answer spki kind))
    (is : IsKind spki kind) (only : (other : KeyKind) → IsKind spki other → other ≡ kind)
  where
    pub clause-found : IfOk r (λ key. IsKeyOf spki (key_scheme key) × (key_info key ≡ spki))
    clause-found = by_result r answer
      where
        by_result : (r : Result CosignVerificationKey SigstoreError)
            → Answers OutOfMemory key_parts r (kind_answer spki kind)
            → IfOk r (λ key. IsKeyOf spki (key_scheme key) × (key_info key ≡ spki))
        by_result (Ok key) meant =
            let parts = scheme_from spki kind (key_parts key) meant in
            (key_takes spki (key_scheme key) (subst (λ (k : KeyKind). IsKind spki k) parts.0 is), parts.1)
        by_result (Err e) meant = tt

    pub clause-supported : (s : VerifyScheme) → IsKeyOf spki s → Answers OutOfMemory key_parts r (Ok (s, spki))
    clause-supported s has =
        let same : Scheme s ≡ kind = only (Scheme s) (key_again spki s has) in
        subst (λ (m : Meant). Answers OutOfMemory key_parts r m)
        (ap (λ (k : KeyKind). kind_answer spki k) (sym same)) answer

    pub clause-malformed : ComesWhere OutOfMemory r (Err KeyParsingError) (IsNoKeyInfo spki)
    clause-malformed =
        error_where OutOfMemory key_parts r (kind_answer spki kind) KeyParsingError (IsNoKeyInfo spki) answer (λ e. cc)
        (λ e. subst (λ (k : KeyKind). IsKind spki k) (no_info_from spki kind e) is)
        (λ none. ap (λ (k : KeyKind). kind_answer spki k) (sym (only NoKeyInfo none)))

    pub clause-unsupported : ComesWhere OutOfMemory r (Err PublicKeyUnsupportedAlgorithmError) (IsUnsupported spki)
    clause-unsupported =
        error_where OutOfMemory key_parts r (kind_answer spki kind) PublicKeyUnsupportedAlgorithmError
        (IsUnsupported spki) answer (λ e. cc)
        (λ e. unsupported_takes spki (subst (λ (k : KeyKind). IsKind spki k) (unsupported_from spki kind e) is))
        (λ other. ap (λ (k : KeyKind). kind_answer spki k)
        (sym (only Unsupported (unsupported_again spki other))))
