-- What is said of a certificate that is to be trusted.
use Rattle.std.proofs.Common.{◌≡◌, ◌⊎◌, Bool, ℕ, ℤ, List, Option, Some, None, Result, Ok, Err, refl, sym, ap, subst, ◌∙◌, inl, inr}
use Rattle.std.specs.Prelude.{IfOk, IfErr, IsOk}
use Rattle.sig_base.specs.Answers.{Answers, ComesWhere, OrMemory, UnlessMemory}
use Rattle.sig_base.specs.ResultSteps.{◌>>=◌}
use Rattle.sig_base.specs.declared.error.SigstoreError.{SigstoreError}
use Rattle.sig_base.specs.declared.error.SigstoreError.TheVariants.{OutOfMemory, X509Error}
use Rattle.sig_certificate.specs.Certificate.{Cert, IsCertificate}
use Rattle.sig_certificate.specs.declared.error.X509ReadError.{X509ReadError}
use Rattle.sig_certificate.specs.declared.error.X509ReadError.TheVariants as read_error
use Rattle.sig_key.specs.Kind.{key_kind, key_parts, kind_answer}
use Rattle.sig_key.specs.declared.verification_key.CosignVerificationKey.{CosignVerificationKey}
use Rattle.sig_x509.specs.Issuance.{Accepts}
use Rattle.sig_constraint.specs.Certified.{IsCertifiedKey, IsCertifiedResult, IsChainAnswer, IsChainResult}
use Rattle.sig_constraint.specs.Certified.{IsKeyAnswer, IsKeyResult, IsKeyUnless, IsReadResult, Key, signer_refusal}
use Rattle.sig_constraint.specs.Certified.{IsCertificateVerifier, is_certified, spki_answer}
use Rattle.sig_payload.specs.Bundles.{AcceptsSpki}

-- ---- the certificate

abbrev as_read : Cert → Result Cert SigstoreError
as_read c = Ok c

pub read_ok : (der : List ℕ) (c : Cert) → IsCertificate der c
    → ((d : Cert) → IsCertificate der d → Answers {X = Cert} read_error.OutOfMemory (λ (x : Cert). x) (Ok c) (Ok d))
    → IsReadResult der (Ok c)
read_ok der c is only = record { found = is; err = tt; only = one; none = λ no. absurd (no c is) } where
  one : (d : Cert) → IsCertificate der d → UnlessMemory {X = Cert} OutOfMemory (Ok c) (as_read c ≡ as_read d)
  one d of = let same = only d of in let also : d ≡ c = cc in inr (ap as_read (sym also))

pub read_none : (der : List ℕ) (x : X509ReadError) → x ≡ read_error.Der
    → ComesWhere {X = Cert} read_error.OutOfMemory (Err x) (Err read_error.Der) ((c : Cert) → ¬ IsCertificate der c)
    → IsReadResult der (Err X509Error)
read_none der x is comes =
    let no = comes.0 (ap (λ (y : X509ReadError). Err y) is) in
    record { found = tt; err = inr (refl, no); only = λ c of. absurd (no c of); none = λ n. inr refl }

pub key_at : (accepts : Accepts) (chain : Option (List (List ℕ))) (c : Cert) (time now : ℤ) → time ≡ now
    → (r : Result CosignVerificationKey SigstoreError) → IsKeyResult accepts chain c time r
    → IsKeyResult accepts chain c now r
key_at accepts chain c time now same r is = subst (λ (t : ℤ). IsKeyResult accepts chain c t r) same is

pub certified_at : (accepts : Accepts) (der : List ℕ) (chain : Option (List (List ℕ))) (time now : ℤ) → time ≡ now
    → (r : Result (Cert × CosignVerificationKey) SigstoreError) → IsCertifiedResult accepts der chain time r
    → IsCertifiedResult accepts der chain now r
certified_at accepts der chain time now same r is =
    subst (λ (t : ℤ). IsCertifiedResult accepts der chain t r) same is

module _ (accepts : Accepts) (chain : Option (List (List ℕ))) (c : Cert) (now : ℤ) where
  abbrev Keyed : Type 0
  Keyed = Result CosignVerificationKey SigstoreError

  -- by itself it is refused
  pub refused_key : (e : SigstoreError) → signer_refusal c now ≡ Some e → IsKeyResult accepts chain c now (Err e)
  refused_key e is = record { found = tt; err = inr err; only = only } where
    err : IsKeyAnswer accepts chain c now (Err e)
    err = subst (λ (o : Option SigstoreError). IsKeyUnless o accepts chain c now (Err e)) (sym is) refl

    only : (meant : Result Key SigstoreError) → IsKeyAnswer accepts chain c now meant
        → Answers OutOfMemory key_parts (Err e) meant
    only meant said =
        inr (subst (λ (o : Option SigstoreError). IsKeyUnless o accepts chain c now meant) is said)

  -- the chain refuses it
  pub untrusted_key : (e : SigstoreError) → signer_refusal c now ≡ None → IsChainResult accepts chain c now (Err e)
      → IsKeyResult accepts chain c now (Err e)
  untrusted_key e none untrusted = record { found = tt; err = err untrusted.err; only = only } where
    err : OrMemory OutOfMemory e (IsChainAnswer accepts chain c now (Err e))
        → OrMemory OutOfMemory e (IsKeyAnswer accepts chain c now (Err e))
    err (inl memory) = inl memory
    err (inr said) =
        inr (subst (λ (o : Option SigstoreError). IsKeyUnless o accepts chain c now (Err e)) (sym none)
        (Err e, (said, refl)))

    by : (meant : Result Key SigstoreError) → IsKeyUnless None accepts chain c now meant
        → Answers OutOfMemory key_parts (Err e) meant
    by meant (trusted, (said, is)) = step (untrusted.only trusted said) where
      step : Answers OutOfMemory (λ done. done) (Err e) trusted → Answers OutOfMemory key_parts (Err e) meant
      step (inl memory) = inl memory
      step (inr same) =
          inr (is ∙ ap (λ (t : Result (Unit {0}) SigstoreError). t >>= λ done. spki_answer c) same)

    only : (meant : Result Key SigstoreError) → IsKeyAnswer accepts chain c now meant
        → Answers OutOfMemory key_parts (Err e) meant
    only meant said =
        by meant (subst (λ (o : Option SigstoreError). IsKeyUnless o accepts chain c now meant) none said)

  -- nothing is said against it
  pub trusted_key : (result : Result CosignVerificationKey SigstoreError) → signer_refusal c now ≡ None
      → IsChainResult accepts chain c now (Ok tt) → Answers OutOfMemory key_parts result (spki_answer c)
      → IsKeyResult accepts chain c now result
  trusted_key result none trusted keyed =
      let there = parts result keyed in record { found = there.0; err = there.1; only = only } where
        known : (meant : Result Key SigstoreError) → meant ≡ spki_answer c → IsKeyAnswer accepts chain c now meant
        known meant is =
            subst (λ (o : Option SigstoreError). IsKeyUnless o accepts chain c now meant) (sym none)
            (Ok tt, (trusted.found, is))

        parts : (r : Result CosignVerificationKey SigstoreError) → Answers OutOfMemory key_parts r (spki_answer c)
            → IfOk r (λ key. IsKeyAnswer accepts chain c now (Ok (key_parts key)))
            × IfErr r (λ e. OrMemory OutOfMemory e (IsKeyAnswer accepts chain c now (Err e)))
        parts (Ok key) is = (known (Ok (key_parts key)) (sym is), tt)
        parts (Err e) (inl memory) = (tt, inl memory)
        parts (Err e) (inr is) = (tt, inr (known (Err e) (sym is)))

        by : (meant : Result Key SigstoreError) → IsKeyUnless None accepts chain c now meant
            → Answers OutOfMemory key_parts result meant
        by meant (answer, (said, is)) =
            subst (λ (m : Result Key SigstoreError). Answers OutOfMemory key_parts result m)
            (sym (is ∙ ap (λ (t : Result (Unit {0}) SigstoreError). t >>= λ done. spki_answer c)
            (trusted.only answer said)))
            keyed

        only : (meant : Result Key SigstoreError) → IsKeyAnswer accepts chain c now meant
            → Answers OutOfMemory key_parts result meant
        only meant said =
            by meant (subst (λ (o : Option SigstoreError). IsKeyUnless o accepts chain c now meant) none said)

-- nothing is said against it, at the same second and of the same SubjectPublicKeyInfo
pub trusted_now : (accepts : Accepts) (chain : Option (List (List ℕ))) (c : Cert) (early late now : ℤ) → early ≡ now
    → late ≡ now → (spki : List ℕ) → spki ≡ c.spki → (result : Result CosignVerificationKey SigstoreError)
    → None ≡ signer_refusal c early → IsChainResult accepts chain c late (Ok tt)
    → Answers OutOfMemory key_parts result (kind_answer spki (key_kind spki)) → IsKeyResult accepts chain c now result
trusted_now accepts chain c early late now early_is late_is spki spki_is result none trusted keyed =
    trusted_key accepts chain c now result
    (ap (λ (t : ℤ). signer_refusal c t) (sym early_is) ∙ sym none)
    (subst (λ (t : ℤ). IsChainResult accepts chain c t (Ok tt)) late_is trusted)
    (subst (λ (x : List ℕ). Answers OutOfMemory key_parts result (kind_answer x (key_kind x))) spki_is keyed)

abbrev no_cert : SigstoreError → Result Cert SigstoreError
no_cert e = Err e

abbrev no_key : SigstoreError → Result Key SigstoreError
no_key e = Err e

module _ (accepts : Accepts) (der : List ℕ) (chain : Option (List (List ℕ))) (now : ℤ) where
  -- there is no certificate
  pub unread : (e : SigstoreError) → IsReadResult der (Err e) → IsCertifiedResult accepts der chain now (Err e)
  unread e read = record { found = tt; err = err read.err; only = only } where
    err : OrMemory OutOfMemory e ((e ≡ X509Error) × ((c : Cert) → ¬ IsCertificate der c))
        → OrMemory OutOfMemory e (IsCertifiedKey accepts der chain now (Err e))
    err (inl memory) = inl memory
    err (inr (is, none)) = inr (inr (ap (λ (x : SigstoreError). Err x) is, none))

    unless : (x : Result Key SigstoreError) → UnlessMemory OutOfMemory (no_cert e) (no_cert e ≡ Err X509Error)
        → x ≡ Err X509Error → Answers OutOfMemory (λ (p : Cert × CosignVerificationKey). key_parts p.1) (Err e) x
    unless x (inl memory) is = inl cc
    unless x (inr same) is = let e_is : e ≡ X509Error = cc in inr (is ∙ ap (λ (y : SigstoreError). Err y) (sym e_is))

    found : (c : Cert) → UnlessMemory OutOfMemory (no_cert e) (no_cert e ≡ Ok c) → e ≡ OutOfMemory
    found c (inl memory) = cc
    found c (inr same) = absurd cc

    only : (meant : Result Key SigstoreError) → IsCertifiedKey accepts der chain now meant
        → Answers OutOfMemory (λ (p : Cert × CosignVerificationKey). key_parts p.1) (Err e) meant
    only meant (inl (c, (is, said))) = inl (found c (read.only c is))
    only meant (inr (is, none)) = unless meant (read.none none) is

  module _ (one : (text : List ℕ) (c d : Cert) → IsCertificate text c → IsCertificate text d → c ≡ d) (c : Cert)
      (is : IsCertificate der c) where
    of_this : (meant : Result Key SigstoreError) → IsCertifiedKey accepts der chain now meant
        → IsKeyAnswer accepts chain c now meant
    of_this meant (inl (d, (other, said))) =
        subst (λ (x : Cert). IsKeyAnswer accepts chain x now meant) (one der d c other is) said
    of_this meant (inr (said, none)) = absurd (none c is)

    -- its key is refused
    pub unkeyed : (e : SigstoreError) → IsKeyResult accepts chain c now (Err e)
        → IsCertifiedResult accepts der chain now (Err e)
    unkeyed e keyed = record { found = tt; err = err keyed.err; only = λ meant said. keyed.only meant (of_this meant said) }
      where
        err : OrMemory OutOfMemory e (IsKeyAnswer accepts chain c now (Err e))
            → OrMemory OutOfMemory e (IsCertifiedKey accepts der chain now (Err e))
        err (inl memory) = inl memory
        err (inr said) = inr (inl (c, (is, said)))

    -- its key is found
    pub keyed_as : (key : CosignVerificationKey) → IsKeyResult accepts chain c now (Ok key)
        → IsCertifiedResult accepts der chain now (Ok (c, key))
    keyed_as key keyed =
        record { found = (is, keyed.found); err = tt; only = λ meant said. keyed.only meant (of_this meant said) }

  -- ---- the clauses of the call

  pub refused_law : (result : Result (Cert × CosignVerificationKey) SigstoreError) (f : SigstoreError)
      → result ≡ Err f → IsCertifiedResult accepts der chain now result
      → (e : SigstoreError) → IsCertifiedKey accepts der chain now (Err e) → (f ≡ OutOfMemory) ⊎ (f ≡ e)
  refused_law result f is judged e said =
      by (subst (λ (r : Result (Cert × CosignVerificationKey) SigstoreError).
      Answers OutOfMemory (λ p. key_parts p.1) r (Err e)) is (judged.only (Err e) said))
    where
      by : (f ≡ OutOfMemory) ⊎ (no_key e ≡ Err f) → (f ≡ OutOfMemory) ⊎ (f ≡ e)
      by (inl memory) = inl memory
      by (inr same) = inr cc

  pub never_refused : (p : Cert × CosignVerificationKey) → IsCertifiedResult accepts der chain now (Ok p)
      → (e : SigstoreError) → IsCertifiedKey accepts der chain now (Err e) → ⊥
  never_refused p judged e said = let clash : no_key e ≡ Ok (key_parts p.1) = judged.only (Err e) said in absurd cc

  pub comes_law : (f : SigstoreError) → IsCertifiedResult accepts der chain now (Err f)
      → (key : Key) → IsCertifiedKey accepts der chain now (Ok key) → f ≡ OutOfMemory
  comes_law f judged key said = by (judged.only (Ok key) said) where
    by : (f ≡ OutOfMemory) ⊎ (Ok key ≡ Err f) → f ≡ OutOfMemory
    by (inl memory) = memory
    by (inr same) = absurd cc

  -- ---- what the call returns

  pub made_err : (f : SigstoreError) → IsCertifiedResult accepts der chain now (Err f)
      → OrMemory OutOfMemory f (IsCertifiedKey accepts der chain now (Err f))
  made_err f judged = judged.err

  pub made_is : (spki : AcceptsSpki) (required : Bool) (c : Cert) (key : CosignVerificationKey)
      → IsCertifiedResult accepts der chain now (Ok (c, key))
      → IsCertificateVerifier spki accepts der chain now required (λ l. is_certified spki key c required l)
  made_is spki required c key judged =
      record {
        certificate = c;
        read = judged.found.0;
        key = key;
        certified = judged.found.1;
        holds_of = λ l. refl;
      }

  pub unread_as : (e : SigstoreError) (r : Result (Cert × CosignVerificationKey) SigstoreError) → r ≡ Err e
      → IsReadResult der (Err e)
      → IsCertifiedResult accepts der chain now r
  unread_as e r is read =
      subst (λ (x : Result (Cert × CosignVerificationKey) SigstoreError). IsCertifiedResult accepts der chain now x)
      (sym is) (unread e read)

  pub unkeyed_as : ((text : List ℕ) (c d : Cert) → IsCertificate text c → IsCertificate text d → c ≡ d)
      → (c : Cert) → IsCertificate der c → (e : SigstoreError)
      → (r : Result (Cert × CosignVerificationKey) SigstoreError) → r ≡ Err e
      → IsKeyResult accepts chain c now (Err e)
      → IsCertifiedResult accepts der chain now r
  unkeyed_as one c of e r is keyed =
      subst (λ (x : Result (Cert × CosignVerificationKey) SigstoreError). IsCertifiedResult accepts der chain now x)
      (sym is) (unkeyed one c of e keyed)
