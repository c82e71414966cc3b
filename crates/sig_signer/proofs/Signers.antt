-- Who signed by the word of bytes: what is returned is what is meant.
use Rattle.std.proofs.Common.{◌≡◌, ◌⊎◌, ℕ, ℤ, List, Result, Ok, Err, IfOk, IfErr, refl, sym, ap, subst, ◌∙◌, inl, inr}
use Rattle.sig_base.specs.Answers.{Answers, ComesWhere, OrMemory}
use Rattle.sig_base.specs.declared.error.SigstoreError.{SigstoreError}
use Rattle.sig_base.specs.declared.error.SigstoreError.TheVariants.{OutOfMemory, X509Error}
use Rattle.sig_certificate.specs.Certificate.{Cert, IsCertificate}
use Rattle.sig_certificate.specs.declared.error.X509ReadError.{X509ReadError}
use Rattle.sig_certificate.specs.declared.error.X509ReadError.TheVariants as read_error
use Rattle.sig_x509.specs.Issuance.{Accepts}
use Rattle.sig_x509.specs.Pool.{Pool}
use Rattle.sig_signer.specs.Signer.{IsSignerOf, IsUnreadable, Signer, seen_signer, signer_answer}
use Rattle.sig_signer.specs.declared.certificate_signature.CertificateSignature.{CertificateSignature}

module _ (accepts : Accepts) (pool : Pool) (der : List ℕ) (at now : ℤ) where
  abbrev Returned : Type 0
  Returned = Result CertificateSignature SigstoreError

  module _ (c : Cert) (of : IsCertificate der c) (one : (d : Cert) → IsCertificate der d → d ≡ c) (r : Returned)
      (is : Answers OutOfMemory seen_signer r (signer_answer accepts pool c at now)) where
    pub read_found : IfOk r (λ x. IsSignerOf accepts pool der at now (Ok (seen_signer x)))
    read_found = by r is
      where
        by : (r : Returned) → Answers OutOfMemory seen_signer r (signer_answer accepts pool c at now)
            → IfOk r (λ x. IsSignerOf accepts pool der at now (Ok (seen_signer x)))
        by (Ok x) is = inl (c, of, is)
        by (Err e) is = tt

    pub read_err : IfErr r (λ e. OrMemory OutOfMemory e (IsSignerOf accepts pool der at now (Err e)))
    read_err = by r is
      where
        by : (r : Returned) → Answers OutOfMemory seen_signer r (signer_answer accepts pool c at now)
            → IfErr r (λ e. OrMemory OutOfMemory e (IsSignerOf accepts pool der at now (Err e)))
        by (Ok x) is = tt
        by (Err e) (inl memory) = inl memory
        by (Err e) (inr is) = inr (inl (c, of, is))

    pub read_only : (m : Result Signer SigstoreError) → IsSignerOf accepts pool der at now m
        → Answers OutOfMemory seen_signer r m
    read_only m (inl d) =
        subst (λ (x : Result Signer SigstoreError). Answers OutOfMemory seen_signer r x)
        (ap (λ (x : Cert). signer_answer accepts pool x at now) (sym (one d.0 d.1)) ∙ d.2) is
    read_only m (inr unread) = absurd (unread.0 c of)

  -- what `try_from_der` says where it reads nothing
  abbrev Refused : X509ReadError → Type 0
  Refused e =
      ComesWhere {X = Cert} read_error.OutOfMemory (Err e) (Err read_error.Der) ((c : Cert) → ¬ IsCertificate der c)

  module _ (e : X509ReadError) (is : e ≡ read_error.Der) (refused : Refused e) where
    none : IsUnreadable der
    none = refused.0 (ap (λ (x : X509ReadError). Err x) is)

    pub unread_meant : IsSignerOf accepts pool der at now (Err X509Error)
    unread_meant = inr (none, refl)

    pub unread_only : (m : Result Signer SigstoreError) → IsSignerOf accepts pool der at now m
        → Answers OutOfMemory seen_signer (Err X509Error) m
    unread_only m (inl d) = absurd (none d.0 d.1)
    unread_only m (inr unread) = inr unread.1

-- what `try_from_der` says where it reads a certificate
pub found_one : (der : List ℕ) (c : Cert)
    → ((d : Cert) → IsCertificate der d → Answers {X = Cert} read_error.OutOfMemory (λ (x : Cert). x) (Ok c) (Ok d))
    → (d : Cert) → IsCertificate der d → d ≡ c
found_one der c only d of = let same = only d of in cc

-- numbers of the code are those of the contract
pub at_times : (accepts : Accepts) (pool : Pool) (c : Cert) (r : Result CertificateSignature SigstoreError)
    (at now a n : ℤ) → a ≡ at → n ≡ now → Answers OutOfMemory seen_signer r (signer_answer accepts pool c a n)
    → Answers OutOfMemory seen_signer r (signer_answer accepts pool c at now)
at_times accepts pool c r at now a n same_at same_now is =
    subst (λ (t : ℤ). Answers OutOfMemory seen_signer r (signer_answer accepts pool c at t)) same_now
    (subst (λ (t : ℤ). Answers OutOfMemory seen_signer r (signer_answer accepts pool c t n)) same_at is)
